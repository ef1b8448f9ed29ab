use Rattle.std.proofs.Common.{◌≡◌, List, rules, ap, ◌∙◌}
use Rattle.charmlet_shelf.specs.Shelf.{View}
use Rattle.charmlet_migrate.specs.Moving.{objects_among}
use Rattle.charmlet_store.specs.Census.{census_in}
use Rattle.charmlet_store.specs.Store.{StoreShown}
use Rattle.charmlet_store.specs.Together.{shown_by}
use Rattle.charmlet_store.proofs.Theres.{shelves_count_there}
use Rattle.charmlet_store.proofs.store.Store.census.Goals as goal

pub returns-clause-counts : goal.returns-clause-counts
returns-clause-counts g c =
    let s = c.self.inside in
    let kind = c.args.kind in
    let there = c.count_all.ensures ∙ ap (λ (vs : List View). objects_among vs kind) c.as_slice.ensures.value ∙ shelves_count_there s c.facts.ensures c.self.invariant kind in
    let tallied : record { supplied = c.get-tally.result.now.supplied; on_shelves = c.count_all.result; in_stock = c.get-tally.result.now.in_stock; retired = c.get-tally.result.now.retired } ≡ record (census_in (shown_by s.history s.stock) kind) { on_shelves = c.count_all.result } = search rules in
    tallied ∙ (λ i. record (census_in (shown_by s.history s.stock) kind) { on_shelves = there i }) ∙ ap (λ (s : StoreShown). census_in s kind) c.self.view_is
