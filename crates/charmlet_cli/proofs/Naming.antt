-- Names of handlers, and what they stand for.
use Rattle.std.proofs.Common.{◌≡◌, ℕ, List, ap}
use Rattle.charmlet_requests.specs.Handlers.{handler_of}
use Rattle.charmlet_script.specs.declared.script.HandlerLine.{HandlerLine}
use Rattle.charmlet_cli.specs.declared.desk.Desk.{Desk}
use Rattle.charmlet_script_output.specs.Named.{named_by}
use Rattle.charmlet_cli.specs.Lines.{named_at}

-- a desk that says the same of each name says the same
pub same_names : (desk : Desk) (lines : List HandlerLine) → ((name : List ℕ) → named_at desk name ≡ named_by lines name) → named_at desk ≡ named_by lines
same_names desk lines same = λ i name. same name i

-- as do two desks with the same handlers
pub same_desk : (desk other : Desk) → desk.handlers ≡ other.handlers → named_at desk ≡ named_at other
same_desk desk other same = ap (λ handlers name. handler_of handlers name) same
