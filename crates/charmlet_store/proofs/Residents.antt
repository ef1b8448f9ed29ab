-- What a store shows that is taken apart.
use Rattle.std.proofs.Common.{◌≡◌, ℕ, zero, suc, ◌+◌, true, false, cond, List, [], ◌∷◌, map, refl, sym, ap, subst, ◌∙◌, add-zero, arith}
use Rattle.std.specs.Prelude.{Some, None, is_some, option_map}
use Rattle.std.specs.BTreeMap.{is_at}
use Rattle.std.specs.Map.{keys_of}
use Rattle.std.specs.Ordering.{eq_by_cmp}
use Rattle.std.specs.List.Sorted.{IsStrictlySortedBy}
use Rattle.std.proofs.lemmas.Bool.{ne_eqb}
use Rattle.std.proofs.lemmas.List.Sums.{sum_by-cons}
use Rattle.std.proofs.lemmas.Map.Made.{lookup-map_values}
use Rattle.std.proofs.lemmas.Map.Views.{tells_apart}
use Rattle.charmlet_model.specs.declared.kind.Kind.{Kind}
use Rattle.charmlet_model.specs.declared.names.Elem.{Elem}
use Rattle.charmlet_model.specs.declared.state.Record.{Record}
use Rattle.charmlet_model.specs.declared.state.Resident.{Resident}
use Rattle.charmlet_model.specs.declared.state.State.{State}
use Rattle.charmlet_model.specs.Names.{elem_cmp}
use Rattle.charmlet_model.specs.Shelves.{Shows, ShowsAll, count_of, if_here, objects_of, records_of, shelf_of, there_in}
use Rattle.charmlet_model.specs.World.{World, record_of}
use Rattle.charmlet_model.proofs.Maps.{elem_exact}
use Rattle.charmlet_model.proofs.ShelfCounts.{shelves_count}
use Rattle.charmlet_model.proofs.SoundLemmas.{sound_fit}
use Rattle.charmlet_chare.specs.declared.chare.Chare.{Ghosts}
use Rattle.charmlet_history.specs.Kept.{IsConsistent, core_in}
use Rattle.charmlet_shelf.proofs.CountsLemmas.{by_shown}
use Rattle.charmlet_stock.specs.Stock.{blanks_in, supplied_to, tally_in}
use Rattle.charmlet_migrate.specs.Moving.{objects_among}
use Rattle.charmlet_store.specs.declared.store.Store.TheInside.{Inside}
use Rattle.charmlet_store.specs.Dismantled.{standing}
use Rattle.charmlet_store.proofs.Shelved.{IsTogether, world_of}
use Rattle.charmlet_store.proofs.Lifting.{Rising, at}
use Rattle.charmlet_store.proofs.Theres.{shelves_count_there}

-- ---- the records of the elements with a place

module _ (w : World) where
  keys_standing : (places : List (Elem × ℕ)) → keys_of (standing w places) ≡ keys_of places
  keys_standing [] = refl
  keys_standing (e ∷ es) = ap (λ ks. e.0 ∷ ks) (keys_standing es)

  -- an element has its record where it has a place
  found_standing : (x : Elem) (places : List (Elem × ℕ)) → at (standing w places) x ≡ cond (is_some (at places x)) (Some (record_of w x)) None
  found_standing x [] = refl
  found_standing x (e ∷ es) =
      elim (eq_by_cmp elem_cmp x e.0) as (λ b. eq_by_cmp elem_cmp x e.0 ≡ b →
      cond b (Some (record_of w e.0)) (at (standing w es) x) ≡ cond (is_some (cond b (Some e.1) (at es x))) (Some (record_of w x)) None) [
        | true ↦ λ same. ap (λ y. Some (record_of w y)) (sym (tells_apart elem_exact x e.0 same))
        | false ↦ λ _. found_standing x es
      ] refl

  pub shows_all : (places : List (Elem × ℕ)) → Rising places → ((x : Elem) → is_some (at places x) ≡ is_some (record_of w x).state) → ShowsAll (standing w places) w
  shows_all places rising placed = record {
    rising = subst (IsStrictlySortedBy elem_cmp) (sym (keys_standing places)) rising;
    shown = λ x. found_standing x places ∙ ap (λ b. cond b (Some (record_of w x)) None) (placed x);
  }

-- ---- how many of a kind

-- as if all were on one shelf
module _ (records : List (Elem × Record)) (w : World) (all : ShowsAll records w) where
  abbrev first_place : Record → ℕ
  first_place r = 0

  abbrev places : List (Elem × ℕ)
  places = map (λ (e : Elem × Record). (e.0, first_place e.1)) records

  place_is : (x : Elem) → at places x ≡ option_map first_place (cond (is_some (record_of w x).state) (Some (record_of w x)) None)
  place_is x = lookup-map_values first_place (is_at (elem_cmp x)) records ∙ ap (option_map first_place) (all.shown x)

  is_placed : (x : Elem) → is_some (at places x) ≡ is_some (record_of w x).state
  is_placed x = ap is_some (place_is x)
      ∙ elim (is_some (record_of w x).state) as (λ b. is_some (option_map first_place (cond b (Some (record_of w x)) None)) ≡ b) [ true ↦ refl | false ↦ refl ]

  is_here : (processor : ℕ) (x : Elem) → at (shelf_of (records ∷ []) processor) x ≡ if_here (option_map first_place (cond (is_some (record_of w x).state) (Some (record_of w x)) None)) processor (record_of w x)
  is_here zero x = all.shown x
      ∙ elim (is_some (record_of w x).state) as (λ b. cond b (Some (record_of w x)) None ≡ if_here (option_map first_place (cond b (Some (record_of w x)) None)) 0 (record_of w x)) [ true ↦ refl | false ↦ refl ]
  is_here (suc processor) x =
      elim (is_some (record_of w x).state) as (λ b. None ≡ if_here (option_map first_place (cond b (Some (record_of w x)) None)) (suc processor) (record_of w x)) [
        | true ↦ ap (λ b. cond b (Some (record_of w x)) None) (sym (ne_eqb 0 (suc processor) (λ same. omega arith)))
        | false ↦ refl
      ]

  one_shelf : Shows (records ∷ []) places w
  one_shelf = record {
    rising = (all.rising, tt);
    placed = is_placed;
    shown = λ processor x. is_here processor x ∙ ap (λ o. if_here o processor (record_of w x)) (sym (place_is x));
  }

  -- the records are as many of each kind as those of the world
  pub counts_all : IsStrictlySortedBy elem_cmp (keys_of w.records) → (kind : Kind) → there_in records kind ≡ there_in w.records kind
  counts_all rising kind =
      sym (sum_by-cons (λ rs. there_in rs kind) records [] ∙ add-zero (there_in records kind)) ∙ shelves_count (records ∷ []) places w kind rising one_shelf

-- ---- a store that is taken apart

module _ {C : Type 0} {G : Ghosts C} (state : C → State) (store : Inside C G) (history : IsConsistent store.history) (consistent : IsTogether store) (residents : List (Elem × Resident C))
    (is : records_of state residents ≡ standing (world_of store) (core_in store.history).places) where
  pub residents_show : ShowsAll (records_of state residents) (world_of store)
  residents_show = subst (λ rs. ShowsAll rs (world_of store)) (sym is) (shows_all (world_of store) (core_in store.history).places history.sound.rising_places consistent.objects.placed)

  as_many : (kind : Kind) → count_of state (objects_of residents) kind ≡ objects_among store.shelves.items kind
  as_many kind =
      by_shown kind state residents
      ∙ counts_all (records_of state residents) (world_of store) residents_show (sound_fit (core_in store.history) history.sound).rising_records kind
      ∙ sym (shelves_count_there store history consistent kind)

  pub residents_counted : (kind : Kind) → supplied_to store.stock kind ≡ count_of state (objects_of residents) kind + blanks_in store.stock kind + (tally_in store.stock kind).retired
  residents_counted kind = consistent.census kind ∙ ap (λ n. n + blanks_in store.stock kind + (tally_in store.stock kind).retired) (sym (as_many kind))
