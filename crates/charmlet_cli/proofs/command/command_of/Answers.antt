use Rattle.std.proofs.Common.{◌∙◌, sym}
use Rattle.charmlet_cli.proofs.CommandLemmas.Asking.{asked_is, error_is, missing_is}
use Rattle.charmlet_cli.proofs.command.command_of.Goals as goal

pub returns-in_err-matches-clause-err : goal.returns-in_err-matches-clause-err
returns-in_err-matches-clause-err g c =
    error_is _ _ _ c.from_residual-in_err-matches.result c.in_ok-parser.ensures c.in_err-matches.ensures.kinds c.from_residual-in_err-matches.ensures.1

pub returns-in-Some-clause-ok : goal.returns-in-Some-clause-ok
returns-in-Some-clause-ok g c =
    asked_is _ _ _ _ c.in_ok-parser.ensures c.in_ok-matches.ensures.kinds c.in_ok-matches.ensures.ok.2 ∙ sym c.in-Some.ensures

pub returns-clause-err : goal.returns-clause-err
returns-clause-err g c =
    missing_is _ _ _ _ c.in_ok-error-in-None.error c.in_ok-parser.ensures c.in_ok-matches.ensures.kinds c.in_ok-matches.ensures.ok.2 (sym c.in-None.ensures)
    c.in_ok-error-in-None.ensures.kind
