use Rattle.std.proofs.Common.{ℕ, List, length, take, get_or, arith, length-append, ap}
use Rattle.std.specs.Prelude.{Option, None}
use Rattle.std.specs.List.{flat_map}
use Rattle.charmlet_image.specs.Images.{spell_item}
use Rattle.charmlet_image.proofs.NewStoreLemmas.{one_more}
use Rattle.charmlet_image.proofs.sizes.items_size.Goals as goal

pub loop-place-preserved : goal.loop-place-preserved
loop-place-preserved c =
    let window = c.args.window.now in
    let at = c.loop-place.place in
    let more = ap (length {A = ℕ}) (one_more spell_item window at None (omega (arith, c.loop-place-test.true, c.len-place-end.ensures.count))) in
    let same = ap (λ (item : Option (List ℕ)). length (spell_item item)) c.get.ensures in
    let sum = length-append (flat_map spell_item (take at window)) (spell_item (get_or window at None)) in
    (omega (arith, more, same, sum, c.item_size-size.ensures.size, c.loop-place.invariant.0), omega (arith, c.item_size-size.ensures.most, c.loop-place.invariant.1))
