use Rattle.std.proofs.Common.{◌≡◌, ◌<◌, ◌==◌, true, false, length, sym, ap, subst, ◌∙◌, arith, rules}
use Rattle.std.specs.Prelude.{None, Err, is_some, unwrap_or}
use Rattle.std.specs.Cmp.{nat_eq_equiv}
use Rattle.charmlet_model.specs.Core.{Done, Move, home, place_of, place_or_home}
use Rattle.charmlet_model.specs.Run.{Goes}
use Rattle.charmlet_history.specs.Kept.{core_in}
use Rattle.charmlet_stock.specs.Stock.{blanks_in}
use Rattle.charmlet_migrate.specs.Workplace.{done_or_refused, store_with}
use Rattle.charmlet_migrate.proofs.CanMove.{is_there, is_within}
use Rattle.charmlet_migrate.proofs.MoveChecks.{refused_so, stays_there}
use Rattle.charmlet_store.specs.Store.{StoreShown, store_in, supplied_in}
use Rattle.charmlet_store.proofs.store.Store.relocate.Goals.{in_default-via-in-Some+then-place-processor+else-from-len, in_default-via-in-Some+else-place-processor, in_default-via-in_default}
use Rattle.charmlet_store.proofs.store.Store.relocate.Goals as goal

pub returns-in_err-test_move-in_default-clause-goes : goal.returns-in_err-test_move-in_default-clause-goes
returns-in_err-test_move-in_default-clause-goes g c =
    let old = c.self.inside in
    let refusal = c.in_err-test_move-in_default.field-0.0 in
    let is : Err refusal ≡ c.from_residual.result = search rules in
    subst (λ (now : StoreShown). Goes (store_in now) (Move c.args.elem c.args.processor) (done_or_refused c.from_residual.result) (store_in now)) c.self.view_is
    (subst (λ r. Goes (store_with old.history old.stock) (Move c.args.elem c.args.processor) (done_or_refused r) (store_with old.history old.stock)) is
    (refused_so (core_in old.history) c.args.elem c.args.processor (blanks_in old.stock) refusal c.in_err-test_move-in_default.ensures.err))

pub returns-in-Some-clause-goes : goal.returns-in-Some-clause-goes
returns-in-Some-clause-goes g c =
    subst (λ (now : StoreShown). Goes (store_in now) (Move c.args.elem c.args.processor) (done_or_refused c.move_among.result) (store_with c.move_among.new.history c.move_among.new.stock)) c.self.view_is c.move_among.ensures.goes

pub returns-in-Some-clause-supplied : goal.returns-in-Some-clause-supplied
returns-in-Some-clause-supplied g c = c.move_among.ensures.supplied ∙ ap supplied_in c.self.view_is

pub returns-in_ok-test_move-in_default-clause-goes : goal.returns-in_ok-test_move-in_default-clause-goes
returns-in_ok-test_move-in_default-clause-goes g c =
    let old = c.self.inside in
    let core = core_in old.history in
    let x = c.args.elem in
    let processor = c.args.processor in
    let can = c.in_ok-test_move-in_default.ensures.ok.1 in
    let on : processor < length old.shelves.items = let within = is_within core x processor can in let count = c.self.invariant.count in omega arith in
    let stands : is_some (place_of core x) ≡ true = (c.facts.ensures.sound.placed x).there ∙ is_there core x processor can in
    let here : (place_or_home core x == processor) ≡ true =
    elim c.in_default.branch as (λ _. (place_or_home core x == processor) ≡ true) [
      | in_default-via-in-Some+then-place-processor+else-from-len w ↦
          let fits = old.shelves.ok.0 in
          let past = w.if-from-len.false in
          let from = w.from.ensures in
          let len = w.len.ensures in
          absurd (let never : ⊥ = omega arith in never)
      | in_default-via-in-Some+else-place-processor w ↦
          ap (λ o. unwrap_or o (home x core.processors) == processor) (sym c.where_is.ensures ∙ w.in-Some.is) ∙ ap (λ n. n == processor) w.if-place-processor.false ∙ nat_eq_equiv.refl processor
      | in_default-via-in_default w ↦
          let nowhere : place_of core x ≡ None = sym c.where_is.ensures ∙ w.in_default.is in
          absurd (let never : false ≡ true = sym (ap is_some nowhere) ∙ stands in let no_way : ⊥ = cc in no_way)
    ] in
    subst (λ (now : StoreShown). Goes (store_in now) (Move x processor) Done (store_in now)) c.self.view_is
    (stays_there core x processor can (blanks_in old.stock) here)
