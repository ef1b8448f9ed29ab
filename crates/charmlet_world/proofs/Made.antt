-- Entries that are inserted in rising order.
use Rattle.std.proofs.Common.{◌≡◌, List, [], ◌∷◌, ◌++◌, refl, sym, ap, ◌∙◌, append_assoc}
use Rattle.std.specs.Prelude.{map}
use Rattle.std.specs.declared.cmp.Ordering.{Ordering}
use Rattle.std.specs.declared.cmp.Ordering.TheVariants.{Less, Greater}
use Rattle.std.specs.Ordering.{match_ordering, ordering_reverse}
use Rattle.std.specs.Cmp.{IsTotalOrder}
use Rattle.std.specs.List.{AllByRecursion}
use Rattle.std.specs.List.Sorted.{IsStrictlySortedBy}
use Rattle.std.specs.BTreeMap.{insert_entry}
use Rattle.std.specs.Map.{keys_of}
use Rattle.std.proofs.lemmas.List.{append-nil}
use Rattle.charmlet_world.specs.Made.{with_made, as_it_is}

module _ {K X Y : Type 0} (R : K → K → Ordering) (total : IsTotalOrder R) (make : K → X → Y) where
  abbrev made : List (K × X) → List (K × Y)
  made = map (λ e. (e.0, make e.0 e.1))

  -- the keys are all below this one
  abbrev IsPast : List (K × Y) → K → Type 0
  IsPast es k = AllByRecursion (λ q. R k q ≡ Greater) (keys_of es)

  inserted_last : (es : List (K × Y)) (k : K) (v : Y) → IsPast es k → insert_entry R es k v ≡ es ++ (k, v) ∷ []
  inserted_last [] k v h = refl
  inserted_last (e ∷ es) k v h =
      ap (λ r. match_ordering r ((k, v) ∷ e ∷ es) ((e.0, v) ∷ es) (e ∷ insert_entry R es k v)) h.0
      ∙ ap (λ fs. e ∷ fs) (inserted_last es k v h.1)

  past_one_more : (es : List (K × Y)) (k q : K) (v : Y) → IsPast es k → R q k ≡ Less → IsPast (es ++ (q, v) ∷ []) k
  past_one_more [] k q v h below = (total.antisymm k q ∙ ap ordering_reverse below, tt)
  past_one_more (e ∷ es) k q v h below = (h.0, past_one_more es k q v h.1 below)

  all_past : (es : List (K × Y)) (q : K) (v : Y) (ks : List K) → AllByRecursion (IsPast es) ks → AllByRecursion (λ y. R q y ≡ Less) ks →
      AllByRecursion (IsPast (es ++ (q, v) ∷ [])) ks
  all_past es q v [] h below = tt
  all_past es q v (k ∷ ks) h below = (past_one_more es k q v h.0 below.0, all_past es q v ks h.1 below.1)

  made_after : (es : List (K × Y)) (xs : List (K × X)) → IsStrictlySortedBy R (keys_of xs) → AllByRecursion (IsPast es) (keys_of xs) →
      with_made R make es xs ≡ es ++ made xs
  unfolding IsStrictlySortedBy
  made_after es [] rising h = sym (append-nil es)
  made_after es (x ∷ xs) rising h =
      let v = make x.0 x.1 in
      ap (λ fs. with_made R make fs xs) (inserted_last es x.0 v h.0)
      ∙ made_after (es ++ (x.0, v) ∷ []) xs rising.1 (all_past es x.0 v (keys_of xs) h.1 rising.0)
      ∙ append_assoc es ((x.0, v) ∷ []) (made xs)

  none_past : (ks : List K) → AllByRecursion (IsPast []) ks
  none_past [] = tt
  none_past (k ∷ ks) = (tt, none_past ks)

  -- they are the entries with their values made
  pub all_made : (xs : List (K × X)) → IsStrictlySortedBy R (keys_of xs) → with_made R make [] xs ≡ map (λ e. (e.0, make e.0 e.1)) xs
  all_made xs rising = made_after [] xs rising (none_past (keys_of xs))

  pub keys_of-made : (xs : List (K × X)) → keys_of (map (λ e. (e.0, make e.0 e.1)) xs) ≡ keys_of xs
  keys_of-made [] = refl
  keys_of-made (x ∷ xs) = ap (λ ks. x.0 ∷ ks) (keys_of-made xs)

-- entries that are as they are
same_entries : {K X : Type 0} (xs : List (K × X)) → map (λ e. (e.0, e.1)) xs ≡ xs
same_entries [] = refl
same_entries (x ∷ xs) = ap (λ ys. x ∷ ys) (same_entries xs)

-- those that rise make their own list
pub made_again : {K X : Type 0} (R : K → K → Ordering) → IsTotalOrder R → (xs : List (K × X)) → IsStrictlySortedBy R (keys_of xs) → with_made R as_it_is [] xs ≡ xs
made_again R total xs rising = all_made R total as_it_is xs rising ∙ same_entries xs
