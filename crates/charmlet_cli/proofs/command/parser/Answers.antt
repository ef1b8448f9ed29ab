use Rattle.std.proofs.Common.{◌≡◌, ◌∙◌, ap, ap₂, rules, true, codes}
use Rattle.std.proofs.lemmas.Result.{IfOk-weaker}
use Rattle.clap.specs.Simple.{App, app_of, on_top, new_app, with_subcommand}
use Rattle.charmlet_cli.specs.Command.CommandLine.{lab_line, restart_line, run_line, show_line}
use Rattle.charmlet_cli.proofs.command.parser.Goals as goal

pub returns : goal.returns
returns c =
    let top : app_of c.subcommand_required.result ≡ on_top (λ top. record top { subcommand_required = true }) (new_app (codes "charmlet")) = search rules in
    let run : app_of c.in_ok-run_parser.field-0 ≡ run_line = c.in_ok-run_parser.ensures.reads in
    let show : app_of c.in_ok-show_parser.field-0 ≡ show_line = c.in_ok-show_parser.ensures.reads in
    let restart : app_of c.in_ok-restart_parser.field-0 ≡ restart_line = c.in_ok-restart_parser.ensures.reads in
    let lab : app_of c.in_ok-lab_parser.field-0 ≡ lab_line = c.in_ok-lab_parser.ensures.reads in
    let first = c.in_ok-subcommand.ensures.shape c.in_ok-run_parser.ensures.local ∙ ap₂ with_subcommand top (ap (λ (a : App). a.top) run) in
    let second = c.in_ok-subcommand-2.ensures.shape c.in_ok-show_parser.ensures.local ∙ ap₂ with_subcommand first (ap (λ (a : App). a.top) show) in
    let third = c.in_ok-subcommand-3.ensures.shape c.in_ok-restart_parser.ensures.local ∙ ap₂ with_subcommand second (ap (λ (a : App). a.top) restart) in
    IfOk-weaker c.subcommand-4.result _ _ (λ parser adds. adds.shape c.in_ok-lab_parser.ensures.local ∙ ap₂ with_subcommand third (ap (λ (a : App). a.top) lab)) c.subcommand-4.ensures
