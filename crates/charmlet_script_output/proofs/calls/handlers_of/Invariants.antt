use Rattle.std.proofs.Common.{◌≡◌, ℕ, List, take}
use Rattle.charmlet_requests.specs.Handlers.{handler_of}
use Rattle.charmlet_script_output.specs.Named.{named_by}
use Rattle.charmlet_script_output.proofs.calls.handlers_of.Given as goal

abbrev pub invariant-loop-line : goal.invariant-loop-line
invariant-loop-line l = (name : List ℕ) → handler_of l.handlers name ≡ named_by (take l.line-index l.lines) name
