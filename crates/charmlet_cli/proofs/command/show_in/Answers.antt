use Rattle.std.proofs.Common.{◌∙◌, ap, option_map}
use Rattle.clap.specs.Matches.{found_of}
use Rattle.charmlet_cli.specs.Command.CommandLine.{asked_in}
use Rattle.charmlet_cli.proofs.CommandLemmas.Asking.{no_show_of, show_of_value}
use Rattle.charmlet_cli.proofs.command.show_in.Goals as goal

pub returns-in_err-dir : goal.returns-in_err-dir
returns-in_err-dir c =
    ap (option_map asked_in) c.from_residual.ensures ∙ no_show_of (found_of c.args.values.now) c.in_err-dir.ensures

pub returns : goal.returns
returns c = show_of_value (found_of c.args.values.now) _ c.in_ok-dir.ensures
