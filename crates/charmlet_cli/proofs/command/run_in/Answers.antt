use Rattle.std.proofs.Common.{◌∙◌, ap, option_map}
use Rattle.clap.specs.Matches.{found_of}
use Rattle.charmlet_cli.specs.Command.CommandLine.{asked_in}
use Rattle.charmlet_cli.proofs.CommandLemmas.Asking.{no_run_of, run_of_values}
use Rattle.charmlet_cli.proofs.command.run_in.Goals as goal

pub returns-in_err-script : goal.returns-in_err-script
returns-in_err-script c =
    ap (option_map asked_in) c.from_residual.ensures ∙ no_run_of (found_of c.args.values.now) c.in_err-script.ensures

pub returns : goal.returns
returns c = run_of_values (found_of c.args.values.now) _ _ _ _ c.in_ok-script.ensures c.get_str-dir.ensures c.is_on-workers.ensures c.is_on-strict.ensures
