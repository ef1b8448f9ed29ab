use Rattle.std.proofs.Common.{◌≡◌, ◌∙◌, codes, rules, true}
use Rattle.std.specs.Str.{bytes_eq}
use Rattle.clap.specs.Walk.{rows_of}
use Rattle.clap.specs.Simple.{subcommand_rows_of}
use Rattle.clap.specs.Matches.{found_of}
use Rattle.charmlet_cli.proofs.CommandLemmas.Asking.{name_of_rows, run_is}
use Rattle.charmlet_cli.proofs.command.command_in.Goals as goal

pub returns-then-eq : goal.returns-then-eq
returns-then-eq c =
    let run : bytes_eq c.in_ok-name.name.now (codes "run") ≡ true = search rules in
    c.run_in.ensures ∙ run_is (subcommand_rows_of c.args.matches.now) c.in_ok-name.name.now (rows_of (found_of c.in_ok-name.values.now))
    (c.in_ok-name.ensures.name ∙ name_of_rows _) c.in_ok-name.ensures.rows run
