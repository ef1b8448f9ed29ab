use Rattle.std.proofs.Common.{[], ◌∷◌, ◌++◌, sym, ◌∙◌}
use Rattle.charmlet_model.proofs.ReadStates.{numbers_more}
use Rattle.charmlet_reference.proofs.packed.numbers.Goals as goal

pub loop-at-preserved : goal.loop-at-preserved
loop-at-preserved c =
    c.in_ok-push.ensures.items
    ∙ (λ i. c.loop-at.invariant i ++ c.number_at.ensures i ∷ [])
    ∙ sym (numbers_more c.loop-at.at c.args.bytes.now)
