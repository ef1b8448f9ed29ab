use Rattle.std.proofs.Common.{◌≡◌, ℕ, List, length, sym, ap, subst, ◌∙◌}
use Rattle.std.specs.List.{All}
use Rattle.std.proofs.lemmas.List.{length-map}
use Rattle.charmlet_model.specs.declared.kind.Kind.{Kind}
use Rattle.charmlet_model.specs.Core.{Core, present}
use Rattle.charmlet_model.specs.Shelves.{AddsUp, Shows}
use Rattle.charmlet_history.specs.Kept.{core_in}
use Rattle.charmlet_history.specs.Opened.{upgraded_core}
use Rattle.charmlet_shelf.specs.Shelf.{View}
use Rattle.charmlet_stock.specs.Stock.{blanks_in, supplied_to, tally_in}
use Rattle.charmlet_migrate.specs.Moving.{IsIdle, objects_among, records_on}
use Rattle.charmlet_store.specs.Store.{StoreShown}
use Rattle.charmlet_migrate.specs.StoreParts.{AreNumbered}
use Rattle.charmlet_store.specs.Upgraded.{up_shelf, up_shelves}
use Rattle.charmlet_store.proofs.Upgrades.{count_up, idle_up, numbers_up, objects_up}
use Rattle.charmlet_store.proofs.store.Store.upgrade.Goals as goal

pub invariant_of-self : goal.invariant_of-self
invariant_of-self g c =
    let old = c.self.inside in
    let was = c.self.invariant in
    let shelves = old.shelves.items in
    let stock = old.stock in
    let core = core_in old.history in
    let now = c.upgrade_shelves.new.shelves.items in
    let is : now ≡ up_shelves shelves = c.upgrade_shelves.ensures in
    let goes : core_in c.upgrade.new.self ≡ upgraded_core core = c.upgrade.ensures.upgraded in
    let counted : objects_among now ≡ objects_among shelves = λ i (kind : Kind). (ap (λ (vs : List View). objects_among vs kind) is ∙ count_up shelves kind) i in
    record {
      count = ap (length {A = View}) is ∙ length-map shelves up_shelf ∙ was.count ∙ sym (ap (λ (k : Core). k.processors) goes);
      numbers = subst AreNumbered (sym is) (numbers_up shelves was.numbers);
      idle = subst (All IsIdle) (sym is) (idle_up shelves was.idle);
      objects =
          subst (λ (k : Core). Shows (records_on now) k.places (present k)) (sym goes)
          (subst (λ (vs : List View). Shows (records_on vs) core.places (present (upgraded_core core))) (sym is) (objects_up shelves core (ap (λ (s : StoreShown). (core_in s.history).history) c.self.view_is ∙ c.requires.new) was.objects));
      census = subst (λ (objects : Kind → ℕ). AddsUp (supplied_to stock) objects (blanks_in stock) (λ kind. (tally_in stock kind).retired)) (sym counted) was.census;
    }
