use Rattle.std.proofs.Common.{◌≡◌, ◌≤◌, ℕ, List, cond, ◌∷◌, [], refl, sym, ap, subst, ◌∙◌}
use Rattle.std.specs.Cmp.{nat_eq_equiv}
use Rattle.charmlet_model.specs.Kind.{kind_number}
use Rattle.charmlet_model.specs.Core.{present}
use Rattle.charmlet_model.specs.Texts.{answer_text}
use Rattle.charmlet_model.specs.declared.step.Step.TheVariants as steps
use Rattle.charmlet_requests.specs.Handlers.{IsTarget}
use Rattle.charmlet_script.specs.declared.script.Line.TheVariants.{Supply}
use Rattle.charmlet_script.specs.Script.{blanks_in}
use Rattle.charmlet_script_output.specs.Supplied.{blanks_left}
use Rattle.charmlet_script_output.specs.Ledgers.{ledger_in}
use Rattle.charmlet_cli.specs.Lines.{Follows, IsAnswered, IsPrinted, named_at}
use Rattle.charmlet_cli.proofs.new_run.run_line.Goals as goal

pub supply_line-requires-clause-enough : goal.supply_line-requires-clause-enough
supply_line-requires-clause-enough g c κs within =
    let kind = c.in-Supply.kind in
    let line : c.args.line.now ≡ Supply kind c.in-Supply.count = c.in-Supply.is in
    let part : blanks_in kind c.args.line.now ≡ c.in-Supply.count =
    ap (blanks_in kind) line ∙ ap (λ b. cond b c.in-Supply.count 0) (nat_eq_equiv.refl (kind_number kind)) in
    subst (λ n. n ≤ blanks_left c.args.source.now kind) part (c.requires.enough kind)

pub returns-in-Supply-clause-prints : goal.returns-in-Supply-clause-prints
returns-in-Supply-clause-prints g c =
    subst (λ line. IsPrinted g.D.Disk (named_at c.args.desk.now) c.supply_line.result (ledger_in c.args.engine.now) line (ledger_in c.supply_line.new.engine) (g.W.Write.contents c.args.writer.now) (g.W.Write.contents c.supply_line.new.writer))
    (sym c.in-Supply.is) c.supply_line.ensures.prints

pub returns-in-Call-clause-prints : goal.returns-in-Call-clause-prints
returns-in-Call-clause-prints g c =
    let before = ledger_in c.args.engine.now in
    let next = ledger_in c.answer_to_call.new.engine in
    let text = answer_text c.answer_to_call.result in
    let asked = c.answer_to_call.ensures.answered in
    let named = named_at c.args.desk.now in
    let target : IsTarget (present before.store.core) c.in-Call.index (named c.in-Call.name) asked.0 asked.1 =
    subst (λ (name : List ℕ). IsTarget (present before.store.core) c.in-Call.index (named name) asked.0 asked.1) c.as_str.ensures asked.2 in
    let answered : IsAnswered g.D.Disk (steps.Request c.in-Call.client c.in-Call.number asked.0 asked.1 c.in-Call.words) c.answer_to_call.result before next =
    subst (λ (words : List ℕ). IsAnswered g.D.Disk (steps.Request c.in-Call.client c.in-Call.number asked.0 asked.1 words) c.answer_to_call.result before next) c.as_slice.ensures asked.3 in (
      text ∷ [],
      subst (λ line. Follows g.D.Disk named before line (text ∷ []) next) (sym c.in-Call.is) (asked.0, asked.1, target, c.answer_to_call.result, answered, refl),
      c.write_answer.ensures,
    )

pub returns-in-Step-clause-prints : goal.returns-in-Step-clause-prints
returns-in-Step-clause-prints g c =
    let before = ledger_in c.args.engine.now in
    let next = ledger_in c.answer_to-answer.new.engine in
    let text = answer_text c.answer_to-answer.result in (
      text ∷ [],
      subst (λ line. Follows g.D.Disk (named_at c.args.desk.now) before line (text ∷ []) next) (sym c.in-Step.is) (c.answer_to-answer.result, c.answer_to-answer.ensures.answered, refl),
      c.write_step_answer.ensures,
    )
