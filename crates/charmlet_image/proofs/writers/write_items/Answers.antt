use Rattle.std.proofs.Common.{ℕ, List, length, ap, length-append, take, arith}
use Rattle.std.specs.Prelude.{Option, None}
use Rattle.std.specs.List.{flat_map}
use Rattle.std.proofs.lemmas.List.Folds.{length-flat_map-take}
use Rattle.charmlet_image.specs.Images.{spell_item}
use Rattle.charmlet_image.proofs.writers.write_items.Goals as goal

pub write_item-requires-clause-room : goal.write_item-requires-clause-room
write_item-requires-clause-room c =
    let window = c.args.window.now in
    let at = c.loop-place.place in
    let fits = length-flat_map-take spell_item window at None (omega (arith, c.loop-place-test.true, c.len-place-end.ensures.count)) in
    let same = ap (λ (item : Option (List ℕ)). length (spell_item item)) c.get.ensures in
    omega (arith, fits, same, ap (length {A = ℕ}) c.loop-place.invariant.0, length-append c.args.out.now.items (flat_map spell_item (take at window)), c.requires.room, c.loop-place.invariant.1)
