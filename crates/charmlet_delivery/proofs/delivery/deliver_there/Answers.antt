use Rattle.std.proofs.Common.{◌≡◌, inl, refl, sym, ap, subst, ◌∙◌}
use Rattle.std.specs.Prelude.{None, Some, IfSome}
use Rattle.charmlet_model.specs.declared.refusal.Refusal.TheVariants.{Memory}
use Rattle.charmlet_model.specs.Core.{Assign, Commit, Core, Done, Release, assigned_to, blank_of_id, next_core, with_taken}
use Rattle.charmlet_model.specs.Run.{Goes, IsNotDelivered, StoreView}
use Rattle.charmlet_history.specs.Kept.{core_in}
use Rattle.charmlet_shelf.specs.Shelf.{View}
use Rattle.charmlet_shelf.specs.declared.phase.Phase.{Phase}
use Rattle.charmlet_stock.specs.Stock.{blanks_in}
use Rattle.charmlet_stock.proofs.Results.{when_ok}
use Rattle.charmlet_delivery.specs.Leaves.{Leaves}
use Rattle.charmlet_delivery.specs.Turns.{Turns}
use Rattle.charmlet_delivery.specs.UnderWay.{IsUnderWay, due_in}
use Rattle.charmlet_delivery.specs.Workplace.{IsConsistentWorkplace, held_in, store_with, workplace_of}
use Rattle.charmlet_delivery.proofs.Assigning.{Has, assigned_here, has_no_memory, is_assigned, none_assigned, released_core, still_runs}
use Rattle.charmlet_delivery.proofs.Delivering.{same_part}
use Rattle.charmlet_delivery.proofs.Leaving.{assign_leaves}
use Rattle.charmlet_delivery.proofs.Turning.{leaves_others, turned_same}
use Rattle.charmlet_delivery.proofs.delivery.deliver_there.Goals as goal

pub enter-requires-clause-unwanted : goal.enter-requires-clause-unwanted
enter-requires-clause-unwanted g c = λ κs within.
    let on = c.args.shelf.now.number in
    let id = c.args.id in
    let core = core_in c.args.history.now in
    let next = next_core core (Assign on id) in
    let assigned : core_in c.assign.new.self ≡ next =
    when_ok (core_in c.assign.new.self ≡ next_core core (Assign c.number-processor.result id)) c.assign.result (sym c.is_err.ensures.value ∙ c.if-is_err.false) c.assign.ensures.ok ∙ ap (λ p. next_core core (Assign p id)) c.number-processor.ensures in
    ap (λ (core : Core). blank_of_id core (assigned_to core on)) assigned ∙ ap (blank_of_id next) (assigned_here core (blanks_in c.args.stock.now) on id c.requires.can) ∙ c.requires.there

pub returns-in_default-clause-ends : goal.returns-in_default-clause-ends
returns-in_default-clause-ends g c =
    let on = c.args.shelf.now.number in
    let id = c.args.id in
    let core = core_in c.args.history.now in
    let blanks = blanks_in c.args.stock.now in
    let next = next_core core (Assign on id) in
    let assigned : core_in c.assign.new.self ≡ next =
    when_ok (core_in c.assign.new.self ≡ next_core core (Assign c.number-processor.result id)) c.assign.result (sym c.is_err.ensures.value ∙ c.if-is_err.false) c.assign.ensures.ok ∙ ap (λ p. next_core core (Assign p id)) c.number-processor.ensures in
    let last : core_in c.release.new.self ≡ core =
    c.release.ensures.released ∙ ap (λ core. next_core core (Release c.number-processor.result)) assigned ∙ ap (λ p. next_core next (Release p)) c.number-processor.ensures
    ∙ released_core core c.facts.ensures.sound on id (none_assigned core blanks on id c.requires.can) in
    subst (λ core. IsNotDelivered (store_with c.args.history.now c.args.stock.now) on id Memory (record { core = core; blanks = blanks })) (sym last)
    (inl (has_no_memory core blanks on id c.requires.can (subst (Has blanks) (sym c.requires.there) refl)))

pub returns-in_default-clause-turns : goal.returns-in_default-clause-turns
returns-in_default-clause-turns g c =
    let old = workplace_of c.args.history.now c.args.shelf.now c.args.stock.now in
    let on = old.shelf.number in
    let id = c.args.id in
    let core = core_in old.history in
    let next = next_core core (Assign on id) in
    let assigned : core_in c.assign.new.self ≡ next =
    when_ok (core_in c.assign.new.self ≡ next_core core (Assign c.number-processor.result id)) c.assign.result (sym c.is_err.ensures.value ∙ c.if-is_err.false) c.assign.ensures.ok ∙ ap (λ p. next_core core (Assign p id)) c.number-processor.ensures in
    let last : core_in c.release.new.self ≡ core =
    c.release.ensures.released ∙ ap (λ core. next_core core (Release c.number-processor.result)) assigned ∙ ap (λ p. next_core next (Release p)) c.number-processor.ensures
    ∙ released_core core c.facts.ensures.sound on id (none_assigned core (blanks_in old.stock) on id c.requires.can) in
    let same : c.enter.new.shelf ≡ old.shelf = c.in_default.ensures.err in
    turned_same old (workplace_of c.release.new.self c.enter.new.shelf old.stock) c.requires.consistent (λ i. held_in (same i) old.stock) refl refl last same

pub returns-clause-ends : goal.returns-clause-ends
returns-clause-ends g c =
    let on = c.args.shelf.now.number in
    let id = c.args.id in
    let core = core_in c.args.history.now in
    let blanks = blanks_in c.args.stock.now in
    let first = store_with c.args.history.now c.args.stock.now in
    let middle = store_with c.assign.new.self c.args.stock.now in
    let last = store_with c.add.new.history c.add.new.stock in
    let there : blank_of_id core (Some id) ≡ None = c.requires.there in
    let assigned : core_in c.assign.new.self ≡ next_core core (Assign on id) =
    when_ok (core_in c.assign.new.self ≡ next_core core (Assign c.number-processor.result id)) c.assign.result (sym c.is_err.ensures.value ∙ c.if-is_err.false) c.assign.ensures.ok ∙ ap (λ p. next_core core (Assign p id)) c.number-processor.ensures in
    let place : c.enter.new.shelf.number ≡ on = ap (λ (v : View). v.number) c.enter.ensures.others in (
      middle,
      subst (λ (s : StoreView). Goes first (Assign on id) Done s) (λ i. record { core = sym assigned i; blanks = ap (λ o. with_taken o blanks) there i })
          (is_assigned core blanks on id c.requires.can (subst (Has blanks) (sym there) refl)),
      subst (λ p. Goes middle (Commit p) Done last) place c.add.ensures.goes,
    )

pub returns-clause-turns : goal.returns-clause-turns
returns-clause-turns g c =
    let old = workplace_of c.args.history.now c.args.shelf.now c.args.stock.now in
    let mid = workplace_of c.assign.new.self old.shelf old.stock in
    let last = workplace_of c.add.new.history c.enter.new.shelf c.add.new.stock in
    let on = old.shelf.number in
    let id = c.args.id in
    let at = c.requires.consistent in
    let core = core_in old.history in
    let next = next_core core (Assign on id) in
    let assigned : core_in mid.history ≡ next =
    when_ok (core_in c.assign.new.self ≡ next_core core (Assign c.number-processor.result id)) c.assign.result (sym c.is_err.ensures.value ∙ c.if-is_err.false) c.assign.ensures.ok ∙ ap (λ p. next_core core (Assign p id)) c.number-processor.ensures in
    let consistent : IsConsistentWorkplace mid = record {
      shelf = same_part old.history mid.history old.shelf old.shelf next refl assigned refl refl refl at.shelf;
      due = subst (λ (phase : Phase). IfSome (due_in phase) (IsUnderWay (core_in mid.history) on)) (sym c.requires.idle) tt;
      census = at.census;
    } in
    let its = c.in-Ok.ensures.ok in
    let added : Turns mid last = c.add.ensures.turns old.shelf its.0 (record {
      consistent = consistent;
      running = still_runs core on id c.requires.can (core_in mid.history) assigned;
      under_way = its.1;
      idle = c.requires.idle;
      there = its.2;
      done = its.3;
      others = c.enter.ensures.others;
    }) in
    record {
      consistent = added.consistent;
      free = λ _ none. c.add.ensures.free;
      leaves = leaves_others old mid last refl (λ q apart. subst (Leaves q core) (sym assigned) (assign_leaves core on id q apart)) added.leaves;
      number = added.number;
      processors = added.processors ∙ ap (λ (c : Core). c.processors) assigned;
      held = added.held;
      supplied = added.supplied;
      keeping = added.keeping;
    }
