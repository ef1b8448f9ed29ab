use Rattle.std.proofs.Common.{◌≡◌, ◌≤◌, cond, ap, subst, ◌∙◌}
use Rattle.std.specs.Cmp.{nat_eq_equiv}
use Rattle.charmlet_model.specs.Kind.{kind_number}
use Rattle.charmlet_stock.specs.Stock as stocks
use Rattle.charmlet_script.specs.Script.{blanks_in}
use Rattle.charmlet_lab.proofs.Halting.{halts_by_step, halts_by_taking}
use Rattle.charmlet_lab.proofs.round.run_line.Goals as goal

pub supply-requires-clause-enough : goal.supply-requires-clause-enough
supply-requires-clause-enough g c κs within =
    let kind = c.in-Supply.kind in
    let part : blanks_in kind c.args.line.now ≡ c.in-Supply.count =
    ap (blanks_in kind) c.in-Supply.is ∙ ap (λ b. cond b c.in-Supply.count 0) (nat_eq_equiv.refl (kind_number kind)) in
    subst (λ n. n ≤ stocks.blanks_in c.args.source.now kind) part (c.requires.enough kind)

pub returns-after-ask-clause-counted : goal.returns-after-ask-clause-counted
returns-after-ask-clause-counted g c = halts_by_taking g.D.Disk c.args.engine.now c.ask.new.self _ _ c.ask.ensures.takes

pub returns-after-step-clause-counted : goal.returns-after-step-clause-counted
returns-after-step-clause-counted g c = halts_by_step g.D.Disk c.args.engine.now c.step.new.self c.in-Step.step c.step.result c.step.ensures.does c.step.ensures.counted
