use Rattle.std.proofs.Common.{rules, ◌≡◌, ◌≤◌, true, false, refl, sym, ap, subst, ◌∙◌}
use Rattle.charmlet_script.specs.Script.{blanks_of}
use Rattle.charmlet_script_output.specs.Named.{named_by}
use Rattle.charmlet_cli.proofs.Endings.{memory_ends}
use Rattle.charmlet_script_output.proofs.Enough.{is_enough, is_too_few}
use Rattle.charmlet_cli.proofs.new_run.prepare.Goals as goal

pub returns-then-not-has_enough-clause-err : goal.returns-then-not-has_enough-clause-err
returns-then-not-has_enough-clause-err g c =
    let not_enough : c.has_enough.result ≡ false = search rules in
    (refl, is_too_few g.C.Chare.state c.supplied_by.result c.args.script.now.lines c.as_slice.result.now c.args.blanks.items c.as_slice.ensures.value c.supplied_by.ensures c.has_enough.result c.has_enough.ensures not_enough)

pub returns-in_err-manifest-clause-err : goal.returns-in_err-manifest-clause-err
returns-in_err-manifest-clause-err g c =
    let is : c.has_enough.result ≡ true = search rules in
    memory_ends g.C.Chare.state c.args.blanks.items c.args.script.now c.from_residual.result
    (is_enough g.C.Chare.state c.supplied_by.result c.args.script.now.lines c.as_slice.result.now c.args.blanks.items c.as_slice.ensures.value c.supplied_by.ensures c.has_enough.result c.has_enough.ensures is) c.from_residual.ensures.1

pub returns-in_err-source-clause-err : goal.returns-in_err-source-clause-err
returns-in_err-source-clause-err g c =
    let is : c.has_enough.result ≡ true = search rules in
    memory_ends g.C.Chare.state c.args.blanks.items c.args.script.now c.from_residual-in_err-source.result
    (is_enough g.C.Chare.state c.supplied_by.result c.args.script.now.lines c.as_slice.result.now c.args.blanks.items c.as_slice.ensures.value c.supplied_by.ensures c.has_enough.result c.has_enough.ensures is) c.from_residual-in_err-source.ensures.1

pub returns-clause-left : goal.returns-clause-left
returns-clause-left g c = λ kind.
    let is : c.has_enough.result ≡ true = search rules in
    let enough = is_enough g.C.Chare.state c.supplied_by.result c.args.script.now.lines c.as_slice.result.now c.args.blanks.items c.as_slice.ensures.value c.supplied_by.ensures c.has_enough.result c.has_enough.ensures is in
    subst (λ n. blanks_of kind c.args.script.now.lines ≤ n) (sym (c.in_ok-source.ensures kind)) (enough kind)

pub returns-clause-enough : goal.returns-clause-enough
returns-clause-enough g c =
    let is : c.has_enough.result ≡ true = search rules in
    is_enough g.C.Chare.state c.supplied_by.result c.args.script.now.lines c.as_slice.result.now c.args.blanks.items c.as_slice.ensures.value c.supplied_by.ensures c.has_enough.result c.has_enough.ensures is

pub returns-in_err-desk-clause-err : goal.returns-in_err-desk-clause-err
returns-in_err-desk-clause-err g c =
    let is : c.has_enough.result ≡ true = search rules in
    memory_ends g.C.Chare.state c.args.blanks.items c.args.script.now c.from_residual-in_err-desk.result
    (is_enough g.C.Chare.state c.supplied_by.result c.args.script.now.lines c.as_slice.result.now c.args.blanks.items c.as_slice.ensures.value c.supplied_by.ensures c.has_enough.result c.has_enough.ensures is) c.from_residual-in_err-desk.ensures.1

pub returns-clause-named : goal.returns-clause-named
returns-clause-named g c name = c.in_ok-desk.ensures name ∙ ap (λ lines. named_by lines name) c.handlers.ensures
