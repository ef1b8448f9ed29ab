use Rattle.std.proofs.Common.{ap, ◌∙◌}
use Rattle.charmlet_script_output.specs.Named.{named_by}
use Rattle.charmlet_cli_workers.proofs.new_run.prepared_with.Goals as goal

pub returns-clause-handlers : goal.returns-clause-handlers
returns-clause-handlers g c = λ name. c.in_ok-handlers.ensures name ∙ ap (λ handlers. named_by handlers name) c.handlers.ensures
