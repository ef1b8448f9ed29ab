use Rattle.std.proofs.Common.{◌∙◌}
use Rattle.clap.specs.Matches.{found_of}
use Rattle.std.specs.Str.Parse.{ParsesBool}
use Rattle.charmlet_cli.proofs.CommandLemmas.Asking.{flag_of_value}
use Rattle.charmlet_cli.proofs.command.is_on.Goals as goal

pub returns : goal.returns
returns c = c.unwrap_or.ensures ∙ flag_of_value ParsesBool (λ word read gives. gives) (found_of c.args.values.now) c.args.flag.now _ c.get_one.ensures.none c.get_one.ensures.value
