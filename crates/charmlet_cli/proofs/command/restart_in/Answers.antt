use Rattle.std.proofs.Common.{◌∙◌, ap, option_map, refl}
use Rattle.std.specs.Str.Parse.{ExplainsUnsignedError, HasUnsignedDigitsIfOk, ParsesUnsigned}
use Rattle.clap.specs.Matches.{found_of}
use Rattle.charmlet_cli.specs.Command.CommandLine.{asked_in}
use Rattle.charmlet_cli.proofs.CommandLemmas.Restarting.{no_folder, no_script, number_of_value, restart_of_values}
use Rattle.charmlet_cli.proofs.command.restart_in.Goals as goal

pub returns-in_err-dir : goal.returns-in_err-dir
returns-in_err-dir c = ap (option_map asked_in) c.from_residual.ensures ∙ no_folder (found_of c.args.values.now) c.in_err-dir.ensures

pub returns-in_err-script : goal.returns-in_err-script
returns-in_err-script c =
    ap (option_map asked_in) c.from_residual-in_err-script.ensures ∙ no_script (found_of c.args.values.now) _ c.in_ok-dir.ensures c.in_err-script.ensures

pub returns-in_err-processors : goal.returns-in_err-processors
returns-in_err-processors c =
    let number = number_of_value (λ bs r. ParsesUnsigned 16 10 bs r × ExplainsUnsignedError 10 bs r × HasUnsignedDigitsIfOk bs r) (λ word read gives. gives.0) _ _ c.in_err-processors.ensures.none c.in_err-processors.ensures.value in
    ap (option_map asked_in) c.from_residual-in_err-processors.ensures ∙ restart_of_values (found_of c.args.values.now) _ _ _ _ _ c.in_ok-dir.ensures c.in_ok-script.ensures number refl refl

pub returns : goal.returns
returns c =
    let number = number_of_value (λ bs r. ParsesUnsigned 16 10 bs r × ExplainsUnsignedError 10 bs r × HasUnsignedDigitsIfOk bs r) (λ word read gives. gives.0) _ _ c.in_ok-processors.ensures.none c.in_ok-processors.ensures.value in
    restart_of_values (found_of c.args.values.now) _ _ _ _ _ c.in_ok-dir.ensures c.in_ok-script.ensures number c.is_on-workers.ensures c.is_on-strict.ensures
