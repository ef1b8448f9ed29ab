-- What is known of what is kept.
use Rattle.std.proofs.Common.{◌≡◌, ℕ, List, [], ◌∷◌, length, refl, sym, ap, ◌∙◌}
use Rattle.std.specs.Prelude.{Option, Some, None, is_some, unwrap_or, option_map, map}
use Rattle.std.specs.declared.cmp.Ordering.{Ordering}
use Rattle.std.specs.declared.cmp.Ordering.TheVariants.{Less, Equal, Greater}
use Rattle.std.specs.Ordering.{match_ordering, nat_cmp}
use Rattle.std.specs.BTreeMap.{insert_entry, is_at}
use Rattle.std.specs.Map.{lookup}
use Rattle.std.proofs.lemmas.List.{length-map}
use Rattle.std.proofs.lemmas.Map.Made.{lookup-map_values}
use Rattle.charmlet_model.specs.declared.event.Event.{Event}
use Rattle.charmlet_model.specs.Row.{no_client}
use Rattle.charmlet_model.specs.World.{World, world, after, client_of}
use Rattle.charmlet_model.specs.Core.{present}
use Rattle.charmlet_model.proofs.Histories.{manifest-after}
use Rattle.charmlet_world.specs.Client.Client.{Rows}
use Rattle.charmlet_history.specs.Kept.{Kept, IsConsistent, core_in}
use Rattle.charmlet_world.specs.Seen.{client_at, new_client}

manifest-world : (w : World) (history : List Event) → (world w history).manifest ≡ w.manifest
manifest-world w [] = refl
manifest-world w (e ∷ es) = manifest-world (after w e) es ∙ manifest-after w e

pub manifest_is : (k : Kept) → (present (core_in k)).manifest ≡ k.opening.manifest
manifest_is k = manifest-world k.opening k.events

-- ---- rows

row_at : (o : Option Rows) → unwrap_or (option_map (λ (c : Rows). c.present) o) no_client ≡ (unwrap_or o new_client).present
row_at None = refl
row_at (Some c) = refl

some_map : {A B : Type 0} (f : A → B) (o : Option A) → is_some (option_map f o) ≡ is_some o
some_map f None = refl
some_map f (Some x) = refl

module _ (k : Kept) (consistent : IsConsistent k) where
  abbrev w : World
  w = present (core_in k)

  lookup_row : (c : ℕ) → lookup (is_at (nat_cmp c)) w.clients ≡ option_map (λ (client : Rows). client.present) (lookup (is_at (nat_cmp c)) k.clients)
  lookup_row c = ap (lookup (is_at (nat_cmp c))) (sym consistent.clients) ∙ lookup-map_values (λ (client : Rows). client.present) (is_at (nat_cmp c)) k.clients

  pub row_is : (c : ℕ) → client_of w c ≡ (client_at k.clients c).present
  row_is c = ap (λ o. unwrap_or o no_client) (lookup_row c) ∙ row_at (lookup (is_at (nat_cmp c)) k.clients)

  pub has_row : (c : ℕ) → is_some (lookup (is_at (nat_cmp c)) w.clients) ≡ is_some (lookup (is_at (nat_cmp c)) k.clients)
  has_row c = ap is_some (lookup_row c) ∙ some_map (λ (client : Rows). client.present) (lookup (is_at (nat_cmp c)) k.clients)

  pub rows_count : length w.clients ≡ length k.clients
  rows_count = ap length (sym consistent.clients) ∙ length-map k.clients (λ e. (e.0, e.1.present))

-- ---- a change of one row

module _ {K X Y : Type 0} (R : K → K → Ordering) (f : X → Y) where
  abbrev valued : List (K × X) → List (K × Y)
  valued = map (λ e. (e.0, f e.1))

  chosen : (r : Ordering) (a b c : List (K × X)) → valued (match_ordering r a b c) ≡ match_ordering r (valued a) (valued b) (valued c)
  chosen Less a b c = refl
  chosen Equal a b c = refl
  chosen Greater a b c = refl

  -- mapping goes through an insertion
  pub map-insert : (k : K) (v : X) (es : List (K × X)) → map (λ e. (e.0, f e.1)) (insert_entry R es k v) ≡ insert_entry R (map (λ e. (e.0, f e.1)) es) k (f v)
  map-insert k v [] = refl
  map-insert k v (e ∷ es) =
      chosen (R k e.0) ((k, v) ∷ e ∷ es) ((e.0, v) ∷ es) (e ∷ insert_entry R es k v)
      ∙ ap (λ fs. match_ordering (R k e.0) ((k, f v) ∷ (e.0, f e.1) ∷ valued es) ((e.0, f v) ∷ valued es) ((e.0, f e.1) ∷ fs)) (map-insert k v es)
