use Rattle.std.proofs.Common.{◌≡◌, ◌∙◌, ap₂, codes, false, rules}
use Rattle.std.proofs.lemmas.Result.{IfOk-weaker}
use Rattle.clap.specs.Simple.{app_of, new_app, with_rule}
use Rattle.charmlet_cli.specs.Command.CommandLine.{folder_word, has_globals, pes_option, strict_flag, workers_flag}
use Rattle.charmlet_cli.proofs.command.restart_parser.Goals as goal

pub returns-clause-reads : goal.returns-clause-reads
returns-clause-reads c =
    let start : app_of c.after_help.result ≡ new_app (codes "restart") = search rules in
    let first : app_of c.in_ok-arg.field-0 ≡ with_rule (new_app (codes "restart")) pes_option =
    c.in_ok-arg.ensures.shape c.pes_arg.ensures.local ∙ ap₂ with_rule start c.pes_arg.ensures.reads in
    let second : app_of c.in_ok-arg-2.field-0 ≡ with_rule (with_rule (new_app (codes "restart")) pes_option) workers_flag =
    c.in_ok-arg-2.ensures.shape c.workers_arg.ensures.local ∙ ap₂ with_rule first c.workers_arg.ensures.reads in
    let third : app_of c.in_ok-arg-3.field-0 ≡ with_rule (with_rule (with_rule (new_app (codes "restart")) pes_option) workers_flag) strict_flag =
    c.in_ok-arg-3.ensures.shape c.strict_arg.ensures.local ∙ ap₂ with_rule second c.strict_arg.ensures.reads in
    let fourth : app_of c.in_ok-arg-4.field-0 ≡ with_rule (with_rule (with_rule (with_rule (new_app (codes "restart")) pes_option) workers_flag) strict_flag) folder_word =
    c.in_ok-arg-4.ensures.shape c.folder_arg.ensures.local ∙ ap₂ with_rule third c.folder_arg.ensures.reads in
    IfOk-weaker c.arg-5.result _ _ (λ parser adds. adds.shape c.script_arg.ensures.local ∙ ap₂ with_rule fourth c.script_arg.ensures.reads) c.arg-5.ensures

pub returns-clause-local : goal.returns-clause-local
returns-clause-local c =
    let start : has_globals c.after_help.result ≡ false = search rules in
    let first : has_globals c.in_ok-arg.field-0 ≡ false = c.in_ok-arg.ensures.globals ∙ search rules in
    let second : has_globals c.in_ok-arg-2.field-0 ≡ false = c.in_ok-arg-2.ensures.globals ∙ search rules in
    let third : has_globals c.in_ok-arg-3.field-0 ≡ false = c.in_ok-arg-3.ensures.globals ∙ search rules in
    let fourth : has_globals c.in_ok-arg-4.field-0 ≡ false = c.in_ok-arg-4.ensures.globals ∙ search rules in
    IfOk-weaker c.arg-5.result _ _ (λ parser adds. adds.globals ∙ search rules) c.arg-5.ensures
