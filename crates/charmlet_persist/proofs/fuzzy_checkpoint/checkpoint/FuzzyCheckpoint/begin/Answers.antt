use Rattle.std.proofs.Common.{sym, subst, rules}
use Rattle.charmlet_history.specs.Kept.{core_in}
use Rattle.charmlet_persist.specs.FuzzyCheckpoint.Checkpoint.{IsRunning, Run, begun_in}
use Rattle.charmlet_persist.proofs.FuzzyCheckpointLemmas.Beginnings.{begun_running}
use Rattle.charmlet_persist.proofs.fuzzy_checkpoint.checkpoint.FuzzyCheckpoint.begin.Goals as goal

pub returns-clause-running : goal.returns-clause-running
returns-clause-running c =
    let begun : Path Run c.reserve.new.self (begun_in c.args.history.now c.args.deliveries) = search rules in
    subst (IsRunning (core_in c.args.history.now)) (sym begun) (begun_running c.args.history.now c.args.deliveries c.facts.ensures)
