use Rattle.std.proofs.Common.{◌≡◌, ◌≤◌, ◌++◌, take, vec_capacity}
use Rattle.std.specs.List.{flat_map}
use Rattle.charmlet_image.specs.Images.{spell_item}
use Rattle.charmlet_image.proofs.writers.write_items.Given as goal

abbrev pub invariant-loop-place : goal.invariant-loop-place
invariant-loop-place l = (l.out.items ≡ l.fn.out.items ++ flat_map spell_item (take l.place l.window)) × (vec_capacity l.fn.out ≤ vec_capacity l.out)
