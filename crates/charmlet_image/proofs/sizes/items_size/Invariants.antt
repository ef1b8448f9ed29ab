use Rattle.std.proofs.Common.{◌≡◌, ◌*◌, ◌≤◌, length, take}
use Rattle.std.specs.List.{flat_map}
use Rattle.charmlet_image.specs.Images.{spell_item}
use Rattle.charmlet_image.proofs.sizes.items_size.Given as goal

abbrev pub invariant-loop-place : goal.invariant-loop-place
invariant-loop-place l = (l.size ≡ length (flat_map spell_item (take l.place l.window))) × (l.size ≤ 4101 * l.place)
