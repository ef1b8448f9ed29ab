use Rattle.std.proofs.Common.{◌≡◌, [], ◌∷◌, ◌+◌, refl, sym, ap, subst, ◌∙◌, arith}
use Rattle.charmlet_model.specs.declared.kind.Kind.{Kind}
use Rattle.charmlet_model.specs.Core.{Commit, Done, assigned_to, next_core}
use Rattle.charmlet_model.specs.Reaction.{kind_of}
use Rattle.charmlet_model.specs.Run.{StoreView, Goes}
use Rattle.charmlet_model.specs.Shelves.{count_of}
use Rattle.charmlet_history.specs.Kept.{core_in}
use Rattle.charmlet_shelf.specs.Count.{came_out, objects_on}
use Rattle.charmlet_shelf.specs.Shelf.{View}
use Rattle.charmlet_stock.specs.Stock.{blanks_in}
use Rattle.charmlet_stock.proofs.Blanks.{retired_blanks, same_supplied}
use Rattle.charmlet_stock.proofs.Results.{when_ok}
use Rattle.charmlet_delivery.specs.Workplace.{held_in, store_with, workplace_of}
use Rattle.charmlet_delivery.proofs.Assigning.{is_committed}
use Rattle.charmlet_delivery.proofs.Counting.{in_hand, is_out, moved_held, retired_as_before}
use Rattle.charmlet_delivery.proofs.Delivering.{has_assigned}
use Rattle.charmlet_delivery.proofs.Entering.{came_off, settled_after}
use Rattle.charmlet_delivery.proofs.Turning.{none_committed, turned_committed}
use Rattle.charmlet_delivery.proofs.delivery.add.Goals as goal

pub retire-requires-after_bounds : goal.retire-requires-after_bounds
retire-requires-after_bounds g c κs within =
    let state = g.C.Chare.state in
    let stock = c.args.stock.now in
    let before = c.requires.0 in
    let entered = c.requires.2 in
    let object = c.in-Some.destroyed in
    let last = c.args.shelf.now in
    let leaves : (kind : Kind) → objects_on before kind ≡ objects_on last kind + count_of state (object ∷ []) kind =
    λ kind. came_off state (workplace_of c.args.history.now before stock) c.requires.1 c.args.delivered.output c.args.delivered.destroyed last entered kind ∙ ap (λ o. objects_on last kind + came_out state o kind) c.in-Some.is in
    is_out state object last stock (held_in before stock) entered.consistent.census (in_hand state object before before last (λ kind. refl) leaves stock)

pub returns-in-Some-clause-goes : goal.returns-in-Some-clause-goes
returns-in-Some-clause-goes g c =
    let state = g.C.Chare.state in
    let before = c.requires.0 in
    let entered = c.requires.2 in
    let last = c.args.shelf.now in
    let old = workplace_of c.args.history.now before c.args.stock.now in
    let core = core_in old.history in
    let place : last.number ≡ before.number = ap (λ (v : View). v.number) entered.others in
    let committed : core_in c.commit.new.self ≡ next_core core (Commit before.number) =
    when_ok (core_in c.commit.new.self ≡ next_core core (Commit c.number.result)) c.commit.result (sym c.is_err.ensures.value ∙ c.if-is_err.false) c.commit.ensures.ok ∙ ap (λ p. next_core core (Commit p)) (c.number.ensures ∙ place) in
    let blanks : blanks_in c.retire.new.self ≡ blanks_in old.stock = retired_blanks old.stock c.retire.new.self _ c.retire.ensures.census in
    subst (λ p. Goes (store_with old.history old.stock) (Commit p) Done (store_with c.commit.new.self c.retire.new.self)) (sym place)
    (subst (λ (s : StoreView). Goes (store_with old.history old.stock) (Commit before.number) Done s) (λ i. record { core = sym committed i; blanks = sym blanks i })
    (is_committed core (blanks_in old.stock) before.number (has_assigned core before.number c.requires.1 entered.under_way) entered.running))

pub returns-in-Some-clause-turns : goal.returns-in-Some-clause-turns
returns-in-Some-clause-turns g c = λ before due entered.
    let state = g.C.Chare.state in
    let last = c.args.shelf.now in
    let object = c.in-Some.destroyed in
    let old = workplace_of c.args.history.now before c.args.stock.now in
    let core = core_in old.history in
    let on = c.number.ensures ∙ ap (λ (v : View). v.number) entered.others in
    let committed : core_in c.commit.new.self ≡ next_core core (Commit before.number) =
    when_ok (core_in c.commit.new.self ≡ next_core core (Commit c.number.result)) c.commit.result (sym c.is_err.ensures.value ∙ c.if-is_err.false) c.commit.ensures.ok ∙ ap (λ p. next_core core (Commit p)) on in
    let leaves : (kind : Kind) → objects_on before kind ≡ objects_on last kind + count_of state (object ∷ []) kind =
    λ kind. came_off state old due c.args.delivered.output c.args.delivered.destroyed last entered kind ∙ ap (λ o. objects_on last kind + came_out state o kind) c.in-Some.is in
    let held : held_in last c.retire.new.self ≡ held_in before old.stock =
    retired_as_before state object before before last (λ kind. refl) leaves old.stock c.retire.new.self c.retire.ensures.census in
    turned_committed old (workplace_of c.commit.new.self last c.retire.new.self) entered.consistent held (same_supplied old.stock c.retire.new.self (kind_of (state object)) _ c.retire.ensures.census refl) c.retire.ensures.keeping
    c.facts.ensures due entered.under_way committed (settled_after state old due c.args.delivered.output c.args.delivered.destroyed last entered)

pub returns-in-Some-clause-free : goal.returns-in-Some-clause-free
returns-in-Some-clause-free g c =
    let state = g.C.Chare.state in
    let before = c.requires.0 in
    let due = c.requires.1 in
    let entered = c.requires.2 in
    let old = workplace_of c.args.history.now before c.args.stock.now in
    let core = core_in old.history in
    let place : c.args.shelf.now.number ≡ before.number = ap (λ (v : View). v.number) entered.others in
    let committed : core_in c.commit.new.self ≡ next_core core (Commit before.number) =
    when_ok (core_in c.commit.new.self ≡ next_core core (Commit c.number.result)) c.commit.result (sym c.is_err.ensures.value ∙ c.if-is_err.false) c.commit.ensures.ok ∙ ap (λ p. next_core core (Commit p)) (c.number.ensures ∙ place) in
    ap (assigned_to (core_in c.commit.new.self)) place ∙ none_committed core (core_in c.commit.new.self) before.number c.facts.ensures.sound due entered.under_way committed

pub returns-in_default-clause-turns : goal.returns-in_default-clause-turns
returns-in_default-clause-turns g c = λ before due entered.
    let state = g.C.Chare.state in
    let last = c.args.shelf.now in
    let old = workplace_of c.args.history.now before c.args.stock.now in
    let core = core_in old.history in
    let on = c.number.ensures ∙ ap (λ (v : View). v.number) entered.others in
    let committed : core_in c.commit.new.self ≡ next_core core (Commit before.number) =
    when_ok (core_in c.commit.new.self ≡ next_core core (Commit c.number.result)) c.commit.result (sym c.is_err.ensures.value ∙ c.if-is_err.false) c.commit.ensures.ok ∙ ap (λ p. next_core core (Commit p)) on in
    let held : held_in last old.stock ≡ held_in before old.stock =
    moved_held before last old.stock (λ kind. let count = came_off state old due c.args.delivered.output c.args.delivered.destroyed last entered kind in let none : came_out state c.args.delivered.destroyed kind ≡ 0 = ap (λ o. came_out state o kind) c.in_default.is in omega arith) in
    turned_committed old (workplace_of c.commit.new.self last old.stock) entered.consistent held refl refl
    c.facts.ensures due entered.under_way committed (settled_after state old due c.args.delivered.output c.args.delivered.destroyed last entered)

pub returns-in_default-clause-free : goal.returns-in_default-clause-free
returns-in_default-clause-free g c =
    let before = c.requires.0 in
    let due = c.requires.1 in
    let entered = c.requires.2 in
    let core = core_in c.args.history.now in
    let place : c.args.shelf.now.number ≡ before.number = ap (λ (v : View). v.number) entered.others in
    let committed : core_in c.commit.new.self ≡ next_core core (Commit before.number) =
    when_ok (core_in c.commit.new.self ≡ next_core core (Commit c.number.result)) c.commit.result (sym c.is_err.ensures.value ∙ c.if-is_err.false) c.commit.ensures.ok ∙ ap (λ p. next_core core (Commit p)) (c.number.ensures ∙ place) in
    ap (assigned_to (core_in c.commit.new.self)) place ∙ none_committed core (core_in c.commit.new.self) before.number c.facts.ensures.sound due entered.under_way committed
