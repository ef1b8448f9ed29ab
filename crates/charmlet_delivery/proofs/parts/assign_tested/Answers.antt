use Rattle.std.proofs.Common.{◌≡◌, sym, ap, subst, ◌∙◌}
use Rattle.std.specs.Prelude.{Some}
use Rattle.charmlet_model.specs.declared.refusal.Refusal.TheVariants.{Memory}
use Rattle.charmlet_model.specs.Run.{Goes, StoreView}
use Rattle.charmlet_model.specs.Core.{Assign, Core, Refuses, Release, assigned_to, blank_of_id, next_core}
use Rattle.charmlet_history.specs.Kept.{core_in}
use Rattle.charmlet_shelf.specs.Due.{Due}
use Rattle.charmlet_shelf.specs.Shelf.{View}
use Rattle.charmlet_shelf.specs.declared.phase.Phase.TheVariants.{Assigned}
use Rattle.charmlet_stock.specs.Stock.{blanks_in}
use Rattle.charmlet_stock.proofs.Results.{when_err, when_ok}
use Rattle.charmlet_delivery.specs.Delivering.{IsDelivering}
use Rattle.charmlet_delivery.specs.Workplace.{store_with, workplace_of}
use Rattle.charmlet_delivery.proofs.Assigning.{Has, assigned_here, has_no_memory, none_assigned, released_core}
use Rattle.charmlet_delivery.proofs.Turning.{turned_assigned, turned_same}
use Rattle.charmlet_delivery.proofs.parts.assign_tested.Goals as goal

pub shelve-requires-clause-assigned : goal.shelve-requires-clause-assigned
shelve-requires-clause-assigned g c = λ κs within.
    let on = c.args.shelf.now.number in
    let id = c.args.id in
    let core = core_in c.args.history.now in
    let assigned : core_in c.assign.new.self ≡ next_core core (Assign on id) =
    when_ok (core_in c.assign.new.self ≡ next_core core (Assign c.number-processor.result id)) c.assign.result (sym c.is_err.ensures.value ∙ c.if-is_err.false) c.assign.ensures.ok ∙ ap (λ p. next_core core (Assign p id)) c.number-processor.ensures in
    (id, ap (λ (core : Core). assigned_to core on) assigned ∙ assigned_here core (blanks_in c.args.stock.now) on id c.requires.can)

pub shelve-requires-clause-wanted : goal.shelve-requires-clause-wanted
shelve-requires-clause-wanted g c = λ κs within.
    let on = c.args.shelf.now.number in
    let id = c.args.id in
    let core = core_in c.args.history.now in
    let next = next_core core (Assign on id) in
    let assigned : core_in c.assign.new.self ≡ next =
    when_ok (core_in c.assign.new.self ≡ next_core core (Assign c.number-processor.result id)) c.assign.result (sym c.is_err.ensures.value ∙ c.if-is_err.false) c.assign.ensures.ok ∙ ap (λ p. next_core core (Assign p id)) c.number-processor.ensures in
    ap (λ (core : Core). blank_of_id core (assigned_to core on)) assigned ∙ ap (blank_of_id next) (assigned_here core (blanks_in c.args.stock.now) on id c.requires.can) ∙ c.requires.wanted

pub returns-then-is_err-2-clause-goes : goal.returns-then-is_err-2-clause-goes
returns-then-is_err-2-clause-goes g c =
    let old = workplace_of c.args.history.now c.args.shelf.now c.args.stock.now in
    let on = old.shelf.number in
    let id = c.args.id in
    let core = core_in old.history in
    let blanks = blanks_in old.stock in
    let next = next_core core (Assign on id) in
    let assigned : core_in c.assign.new.self ≡ next =
    when_ok (core_in c.assign.new.self ≡ next_core core (Assign c.number-processor.result id)) c.assign.result (sym c.is_err.ensures.value ∙ c.if-is_err.false) c.assign.ensures.ok ∙ ap (λ p. next_core core (Assign p id)) c.number-processor.ensures in
    let last : core_in c.release.new.self ≡ core =
    c.release.ensures.released ∙ ap (λ core. next_core core (Release c.number-processor.result)) assigned ∙ ap (λ p. next_core next (Release p)) c.number-processor.ensures
    ∙ released_core core c.facts.ensures.sound on id (none_assigned core blanks on id c.requires.can) in
    let failed = when_err ((c.shelve.new.shelf ≡ old.shelf) × (blanks_in c.shelve.new.stock ≡ blanks)) c.shelve.result (sym c.is_err-2.ensures.value ∙ c.if-is_err-2.true) c.shelve.ensures.err in
    let has : Has blanks (blank_of_id core (Some id)) = subst (Has blanks) (sym c.requires.wanted) (sym c.in_default.ensures) in
    subst (λ (s : StoreView). Goes (store_with old.history old.stock) (Assign on id) (Refuses Memory) s) (λ i. record { core = sym last i; blanks = sym failed.1 i })
    (has_no_memory core blanks on id c.requires.can has)

pub returns-then-is_err-2-clause-turns : goal.returns-then-is_err-2-clause-turns
returns-then-is_err-2-clause-turns g c =
    let old = workplace_of c.args.history.now c.args.shelf.now c.args.stock.now in
    let on = old.shelf.number in
    let id = c.args.id in
    let core = core_in old.history in
    let blanks = blanks_in old.stock in
    let next = next_core core (Assign on id) in
    let assigned : core_in c.assign.new.self ≡ next =
    when_ok (core_in c.assign.new.self ≡ next_core core (Assign c.number-processor.result id)) c.assign.result (sym c.is_err.ensures.value ∙ c.if-is_err.false) c.assign.ensures.ok ∙ ap (λ p. next_core core (Assign p id)) c.number-processor.ensures in
    let last : core_in c.release.new.self ≡ core =
    c.release.ensures.released ∙ ap (λ core. next_core core (Release c.number-processor.result)) assigned ∙ ap (λ p. next_core next (Release p)) c.number-processor.ensures
    ∙ released_core core c.facts.ensures.sound on id (none_assigned core blanks on id c.requires.can) in
    let failed = when_err ((c.shelve.new.shelf ≡ old.shelf) × (blanks_in c.shelve.new.stock ≡ blanks)) c.shelve.result (sym c.is_err-2.ensures.value ∙ c.if-is_err-2.true) c.shelve.ensures.err in
    turned_same old (workplace_of c.release.new.self c.shelve.new.shelf c.shelve.new.stock) c.requires.consistent c.shelve.ensures.held c.shelve.ensures.supplied c.shelve.ensures.keeping last failed.0

pub returns-clause-turns : goal.returns-clause-turns
returns-clause-turns g c =
    let old = workplace_of c.args.history.now c.args.shelf.now c.args.stock.now in
    let on = old.shelf.number in
    let id = c.args.id in
    let core = core_in old.history in
    let assigned : core_in c.assign.new.self ≡ next_core core (Assign on id) =
    when_ok (core_in c.assign.new.self ≡ next_core core (Assign c.number-processor.result id)) c.assign.result (sym c.is_err.ensures.value ∙ c.if-is_err.false) c.assign.ensures.ok ∙ ap (λ p. next_core core (Assign p id)) c.number-processor.ensures in
    let ready = when_ok ((due : Due) × IsDelivering c.assign.new.self c.shelve.new.shelf due (Assigned due)) c.shelve.result (sym c.is_err-2.ensures.value ∙ c.if-is_err-2.false) c.shelve.ensures.ok in
    let number : c.shelve.new.shelf.number ≡ on = ap (λ (v : View). v.number) c.shelve.ensures.rest in
    turned_assigned old (workplace_of c.assign.new.self c.shelve.new.shelf c.shelve.new.stock) c.requires.consistent c.shelve.ensures.held c.shelve.ensures.supplied c.shelve.ensures.keeping id assigned ready.0 ready.1 number
