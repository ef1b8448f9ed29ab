use Rattle.std.proofs.Common.{◌∙◌, ap, option_map}
use Rattle.clap.specs.Matches.{found_of}
use Rattle.charmlet_cli.specs.Command.CommandLine.{asked_in}
use Rattle.charmlet_cli.proofs.CommandLemmas.Asking.{lab_of_value, no_lab_of}
use Rattle.charmlet_cli.proofs.command.lab_in.Goals as goal

pub returns-in_err-script : goal.returns-in_err-script
returns-in_err-script c =
    ap (option_map asked_in) c.from_residual.ensures ∙ no_lab_of (found_of c.args.values.now) c.in_err-script.ensures

pub returns : goal.returns
returns c = lab_of_value (found_of c.args.values.now) _ c.in_ok-script.ensures
