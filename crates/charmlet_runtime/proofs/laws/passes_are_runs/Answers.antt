use Rattle.charmlet_runtime.proofs.Told.{passes_are_runs}
use Rattle.charmlet_runtime.proofs.laws.passes_are_runs.Goals as goal

pub returns : goal.returns
returns c = passes_are_runs
