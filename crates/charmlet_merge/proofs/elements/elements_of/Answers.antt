use Rattle.std.proofs.Common.{sym, ap, ◌∙◌}
use Rattle.charmlet_merge.proofs.Maps.{drop-past, merged, merged-is}
use Rattle.charmlet_merge.proofs.elements.elements_of.Goals as goal

pub returns : goal.returns
returns g c = λ worker processors records are.
    sym (ap (merged c.loop-replayer.elements.entries) (drop-past c.args.replayers.now c.loop-replayer.replayer-index c.loop-replayer-test.false))
    ∙ c.loop-replayer.invariant ∙ merged-is worker processors records c.args.replayers.now are
