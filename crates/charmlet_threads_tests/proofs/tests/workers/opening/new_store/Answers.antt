use Rattle.std.proofs.Common.{rules}
use Rattle.charmlet_threads_tests.proofs.tests.workers.opening.new_store.Goals as goal

pub returns : goal.returns
returns g c = record {
  no_events = search rules;
  unassigned = search rules;
  dropping = search rules;
  agrees = search rules;
  kept = λ honest. absurd honest;
  current = λ honest _. absurd honest;
}
