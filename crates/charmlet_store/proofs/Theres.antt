-- How many elements are there, by the objects that show them.
use Rattle.std.proofs.Common.{◌≡◌, ◌+◌, cond, List, [], ◌∷◌, refl, sym, ap, ◌∙◌, add-zero}
use Rattle.std.specs.List.{AllByRecursion}
use Rattle.std.proofs.lemmas.List.Elements.{recursion_from_All}
use Rattle.std.proofs.lemmas.List.Sums.{sum_by-cons}
use Rattle.charmlet_model.specs.declared.kind.Kind.{Kind}
use Rattle.charmlet_model.specs.Shelves.{on_shelves, there_in}
use Rattle.charmlet_model.proofs.SoundLemmas.{sound_fit}
use Rattle.charmlet_chare.specs.declared.chare.Chare.{Ghosts}
use Rattle.charmlet_model.specs.Core.{present}
use Rattle.charmlet_history.specs.Kept.{IsConsistent, core_in}
use Rattle.charmlet_shelf.specs.Count.{is_newcomer_of, objects_on}
use Rattle.charmlet_shelf.specs.Shelf.{View}
use Rattle.charmlet_migrate.specs.Moving.{IsIdle, objects_among, records_on}
use Rattle.charmlet_store.specs.declared.store.Store.TheInside.{Inside}
use Rattle.charmlet_store.proofs.Shelved.{IsTogether}
use Rattle.charmlet_store.specs.There.{there_of}
use Rattle.charmlet_model.proofs.ShelfCounts.{shelves_count}

-- shelves with no delivery under way have the objects of their elements
idle_objects : (kind : Kind) (shelves : List View) → AllByRecursion IsIdle shelves → objects_among shelves kind ≡ on_shelves (records_on shelves) kind
idle_objects kind [] idle = refl
idle_objects kind (shelf ∷ shelves) idle =
    sum_by-cons (λ (v : View). objects_on v kind) shelf shelves
    ∙ ap (λ n. n + objects_among shelves kind) (ap (λ phase. there_in shelf.records kind + cond (is_newcomer_of kind phase) 1 0) idle.0 ∙ add-zero (there_in shelf.records kind))
    ∙ ap (λ n. there_in shelf.records kind + n) (idle_objects kind shelves idle.1)
    ∙ sym (sum_by-cons (λ records. there_in records kind) shelf.records (records_on shelves))

-- a store that stands has as many objects of the kind on its shelves as elements of it are there
pub shelves_count_there : {C : Type 0} {G : Ghosts C} (store : Inside C G) → IsConsistent store.history → IsTogether store → (kind : Kind) → objects_among store.shelves.items kind ≡ there_of (present (core_in store.history)) kind
shelves_count_there store history consistent kind =
    idle_objects kind store.shelves.items (recursion_from_All IsIdle store.shelves.items consistent.idle)
    ∙ shelves_count (records_on store.shelves.items) (core_in store.history).places (present (core_in store.history)) kind (sound_fit (core_in store.history) history.sound).rising_records consistent.objects
