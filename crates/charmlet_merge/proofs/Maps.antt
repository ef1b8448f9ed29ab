-- Maps of replayers that are merged, one after the other.
use Rattle.std.proofs.Common.{◌≡◌, ◌≢◌, ℕ, zero, suc, ◌<◌, ◌≤◌, ◌==◌, Bool, true, false, cond, List, [], ◌∷◌, length, drop, refl, sym, ap, subst, ◌∙◌, arith}
use Rattle.std.specs.Prelude.{Option, Some, None, nat_lt, slice_get}
use Rattle.std.specs.List.{AllByRecursion}
use Rattle.std.specs.List.Sorted.{IsStrictlySortedBy}
use Rattle.std.specs.BTreeMap.{insert_entry, is_at}
use Rattle.std.specs.Map.{keys_of, lookup}
use Rattle.std.specs.Ordering.{eq_by_cmp, is_eq}
use Rattle.std.specs.declared.cmp.Ordering.TheVariants.{Less}
use Rattle.std.proofs.lemmas.Bool.{eqb-true, ltb-false, ltb-true}
use Rattle.std.proofs.lemmas.Map.Views.{tells_apart}
use Rattle.charmlet_model.specs.declared.names.Elem.{Elem}
use Rattle.charmlet_model.specs.declared.state.Record.{Record}
use Rattle.charmlet_model.specs.Names.{elem_cmp}
use Rattle.charmlet_model.proofs.Maps.{elem_exact, elem_total, lookup-insert_entry, rising-insert_entry}
use Rattle.charmlet_chare.specs.declared.chare.Chare.{Ghosts}
use Rattle.charmlet_history.specs.Opened.{opened_element, opened_elements}
use Rattle.charmlet_world.specs.declared.element.Element.{Element}
use Rattle.charmlet_world.specs.Made.{as_it_is, with_made}
use Rattle.charmlet_log_scan.specs.Partition.Parts.{is_of_worker, part}
use Rattle.charmlet_replayers.specs.declared.replayer.replayer.Replayer.{Replayer}
use Rattle.charmlet_replayers.proofs.ReplayerLemmas.Merged.{merged-are-opened}
use Rattle.charmlet_merge.specs.Merged.{ArePartsOn}

-- ---- one map that is added

-- the first of two, or else the second
abbrev or_found : Option Element → Option Element → Option Element
or_found None other = other
or_found (Some e) other = Some e

-- a key that is below all others is tied with none of them
past-first : (q : Elem) (k : Elem) (es : List (Elem × Element)) → eq_by_cmp elem_cmp q k ≡ true → AllByRecursion (λ y. elem_cmp k y ≡ Less) (keys_of es) → lookup (is_at (elem_cmp q)) es ≡ None
past-first q k [] tied below = refl
past-first q k (e ∷ es) tied below =
    let same : q ≡ k = tells_apart elem_exact q k tied in
    let low : elem_cmp q e.0 ≡ Less = ap (λ y. elem_cmp y e.0) same ∙ below.0 in
    let apart : eq_by_cmp elem_cmp q e.0 ≡ false = ap is_eq low in
    ap (λ b. cond b (Some e.1) (lookup (is_at (elem_cmp q)) es)) apart ∙ past-first q k es tied below.1

lookup-made : (q : Elem) (xs es : List (Elem × Element)) → IsStrictlySortedBy elem_cmp (keys_of xs) →
    lookup (is_at (elem_cmp q)) (with_made elem_cmp as_it_is es xs) ≡ or_found (lookup (is_at (elem_cmp q)) xs) (lookup (is_at (elem_cmp q)) es)
unfolding IsStrictlySortedBy
lookup-made q [] es rising = refl
lookup-made q (x ∷ xs) es rising =
    lookup-made q xs (insert_entry elem_cmp es x.0 x.1) rising.1
    ∙ ap (or_found (lookup (is_at (elem_cmp q)) xs)) (lookup-insert_entry elem_cmp elem_total q x.0 x.1 es)
    ∙ (elim (eq_by_cmp elem_cmp q x.0) as (λ b. eq_by_cmp elem_cmp q x.0 ≡ b →
    or_found (lookup (is_at (elem_cmp q)) xs) (cond b (Some x.1) (lookup (is_at (elem_cmp q)) es)) ≡ or_found (cond b (Some x.1) (lookup (is_at (elem_cmp q)) xs)) (lookup (is_at (elem_cmp q)) es)) [
      | true ↦ λ tied. ap (λ o. or_found o (Some x.1)) (past-first q x.0 xs tied rising.0)
      | false ↦ λ _. refl
    ] refl)

rising-made : (xs es : List (Elem × Element)) → IsStrictlySortedBy elem_cmp (keys_of es) → IsStrictlySortedBy elem_cmp (keys_of (with_made elem_cmp as_it_is es xs))
rising-made [] es rising = rising
rising-made (x ∷ xs) es rising = rising-made xs (insert_entry elem_cmp es x.0 x.1) (rising-insert_entry elem_cmp elem_total x.0 x.1 es rising)

-- ---- the parts

keys-opened : (n : ℕ) (es : List (Elem × Record)) → keys_of (opened_elements n es) ≡ keys_of es
keys-opened n [] = refl
keys-opened n (e ∷ es) = ap (λ ks. e.0 ∷ ks) (keys-opened n es)

-- an element of another replayer isn't in the part
not-mine : (n : ℕ) (mine : Elem → Bool) (x : Elem) (es : List (Elem × Record)) → mine x ≡ false → lookup (is_at (elem_cmp x)) (opened_elements n (part mine es)) ≡ None
not-mine n mine x [] other = refl
not-mine n mine x (e ∷ es) other =
    elim (mine e.0) as (λ b. mine e.0 ≡ b → lookup (is_at (elem_cmp x)) (opened_elements n (cond b (e ∷ part mine es) (part mine es))) ≡ None) [
      | false ↦ λ _. not-mine n mine x es other
      | true ↦ λ own.
          elim (eq_by_cmp elem_cmp x e.0) as (λ b. eq_by_cmp elem_cmp x e.0 ≡ b → cond b (Some (opened_element n e.0 e.1)) (lookup (is_at (elem_cmp x)) (opened_elements n (part mine es))) ≡ None) [
            | true ↦ λ tied. absurd (let same = tells_apart elem_exact x e.0 tied in let contra : true ≡ false = sym own ∙ ap mine (sym same) ∙ other in let never : ⊥ = cc in never)
            | false ↦ λ _. not-mine n mine x es other
          ] refl
    ] refl

module _ {C : Type 0} {G : Ghosts C} where
  -- what the replayer with this number keeps
  abbrev pub map_at : List (Replayer C G) → ℕ → List (Elem × Element)
  map_at [] v = []
  map_at (replayer ∷ replayers) zero = replayer.restored.elements.entries
  map_at (replayer ∷ replayers) (suc v) = map_at replayers v

  abbrev pub merged : List (Elem × Element) → List (Replayer C G) → List (Elem × Element)
  merged es [] = es
  merged es (replayer ∷ replayers) = merged (with_made elem_cmp as_it_is es replayer.restored.elements.entries) replayers

  rising-merged : (replayers : List (Replayer C G)) (es : List (Elem × Element)) → IsStrictlySortedBy elem_cmp (keys_of es) → IsStrictlySortedBy elem_cmp (keys_of (merged es replayers))
  rising-merged [] es rising = rising
  rising-merged (replayer ∷ replayers) es rising = rising-merged replayers (with_made elem_cmp as_it_is es replayer.restored.elements.entries) (rising-made replayer.restored.elements.entries es rising)

  at-some : (replayers : List (Replayer C G)) (v : ℕ) → v < length replayers → (replayer : Replayer C G) × (slice_get replayers v ≡ Some replayer) × (map_at replayers v ≡ replayer.restored.elements.entries)
  at-some [] v within = absurd (omega (arith, within))
  at-some (replayer ∷ replayers) zero within = (replayer, refl, refl)
  at-some (replayer ∷ replayers) (suc v) within = at-some replayers v (omega (arith, within))

  at-none : (replayers : List (Replayer C G)) (v : ℕ) → length replayers ≤ v → map_at replayers v ≡ []
  at-none [] v past = refl
  at-none (replayer ∷ replayers) zero past = absurd (omega (arith, past))
  at-none (replayer ∷ replayers) (suc v) past = at-none replayers v (omega (arith, past))

  -- each rises, and only the replayer's own has the element
  module _ (x : Elem) where
    found-past : (replayers : List (Replayer C G)) (es : List (Elem × Element)) → ((v : ℕ) → IsStrictlySortedBy elem_cmp (keys_of (map_at replayers v))) → ((v : ℕ) → lookup (is_at (elem_cmp x)) (map_at replayers v) ≡ None) →
        lookup (is_at (elem_cmp x)) (merged es replayers) ≡ lookup (is_at (elem_cmp x)) es
    found-past [] es rise nowhere = refl
    found-past (replayer ∷ replayers) es rise nowhere =
        found-past replayers (with_made elem_cmp as_it_is es replayer.restored.elements.entries) (λ v. rise (suc v)) (λ v. nowhere (suc v))
        ∙ lookup-made x replayer.restored.elements.entries es (rise 0)
        ∙ ap (λ o. or_found o (lookup (is_at (elem_cmp x)) es)) (nowhere 0)

    found-in : (replayers : List (Replayer C G)) (es : List (Elem × Element)) (w : ℕ) → ((v : ℕ) → IsStrictlySortedBy elem_cmp (keys_of (map_at replayers v))) → ((v : ℕ) → v ≢ w → lookup (is_at (elem_cmp x)) (map_at replayers v) ≡ None) →
        lookup (is_at (elem_cmp x)) es ≡ None → lookup (is_at (elem_cmp x)) (merged es replayers) ≡ lookup (is_at (elem_cmp x)) (map_at replayers w)
    found-in [] es w rise others none = none
    found-in (replayer ∷ replayers) es zero rise others none =
        found-past replayers (with_made elem_cmp as_it_is es replayer.restored.elements.entries) (λ v. rise (suc v)) (λ v. others (suc v) (λ same. let never : ⊥ = omega (arith, same) in never))
        ∙ lookup-made x replayer.restored.elements.entries es (rise 0)
        ∙ ap (or_found (lookup (is_at (elem_cmp x)) replayer.restored.elements.entries)) none
        ∙ or_nothing (lookup (is_at (elem_cmp x)) replayer.restored.elements.entries)
      where
        or_nothing : (o : Option Element) → or_found o None ≡ o
        or_nothing None = refl
        or_nothing (Some e) = refl
    found-in (replayer ∷ replayers) es (suc w) rise others none =
        found-in replayers (with_made elem_cmp as_it_is es replayer.restored.elements.entries) w (λ v. rise (suc v)) (λ v apart. others (suc v) (λ same. apart (omega (arith, same))))
        (lookup-made x replayer.restored.elements.entries es (rise 0)
        ∙ ap (λ o. or_found o (lookup (is_at (elem_cmp x)) es)) (others 0 (λ same. let never : ⊥ = omega (arith, same) in never)) ∙ none)

  module _ (worker : Elem → ℕ) (n : ℕ) (records : List (Elem × Record)) (replayers : List (Replayer C G)) (are : ArePartsOn worker n records replayers) where
    part-rising : (v : ℕ) → v < length replayers → IsStrictlySortedBy elem_cmp (keys_of (part (is_of_worker worker v) records))
    part-rising v within = let at = at-some replayers v within in (are.parts v at.0 at.1).rising

    -- each map is that of its part, and behind the last replayer there is none
    one-map : (v : ℕ) → v < length replayers → map_at replayers v ≡ opened_elements n (part (is_of_worker worker v) records)
    one-map v within =
        let at = at-some replayers v within in
        at.2 ∙ (are.parts v at.0 at.1).elements ∙ ap (λ m. opened_elements m (part (is_of_worker worker v) records)) (are.on v at.0 at.1)

    no-part : (v : ℕ) (es : List (Elem × Record)) → length replayers ≤ v → part (is_of_worker worker v) es ≡ []
    no-part v [] past = refl
    no-part v (e ∷ es) past =
        let less = are.within e.0 in
        elim (is_of_worker worker v e.0) as (λ b. is_of_worker worker v e.0 ≡ b → cond b (e ∷ part (is_of_worker worker v) es) (part (is_of_worker worker v) es) ≡ []) [
          | true ↦ λ own. absurd (let same = eqb-true (worker e.0) v own in let never : ⊥ = omega (arith, same, less, past) in never)
          | false ↦ λ _. no-part v es past
        ] refl

    each-map : (v : ℕ) → map_at replayers v ≡ opened_elements n (part (is_of_worker worker v) records)
    each-map v =
        elim (nat_lt v (length replayers)) as (λ b. nat_lt v (length replayers) ≡ b → map_at replayers v ≡ opened_elements n (part (is_of_worker worker v) records)) [
          | true ↦ λ less. one-map v (ltb-true v (length replayers) less)
          | false ↦ λ past.
              let over = ltb-false v (length replayers) past in
              at-none replayers v over ∙ ap (opened_elements n) (sym (no-part v records over))
        ] refl

    each-rises : (v : ℕ) → IsStrictlySortedBy elem_cmp (keys_of (map_at replayers v))
    unfolding IsStrictlySortedBy
    each-rises v =
        elim (nat_lt v (length replayers)) as (λ b. nat_lt v (length replayers) ≡ b → IsStrictlySortedBy elem_cmp (keys_of (map_at replayers v))) [
          | true ↦ λ less.
              let within = ltb-true v (length replayers) less in
              subst (IsStrictlySortedBy elem_cmp) (sym (ap keys_of (one-map v within) ∙ keys-opened n (part (is_of_worker worker v) records))) (part-rising v within)
          | false ↦ λ past. subst (λ es. IsStrictlySortedBy elem_cmp (keys_of es)) (sym (at-none replayers v (ltb-false v (length replayers) past))) tt
        ] refl

    pub merged-is : merged [] replayers ≡ opened_elements n records
    unfolding IsStrictlySortedBy
    merged-is =
        merged-are-opened n records worker (map_at replayers) (merged [] replayers) are.rising (rising-merged replayers [] tt) each-map
        (λ x. found-in x replayers [] (worker x) each-rises
        (λ v apart. ap (lookup (is_at (elem_cmp x))) (each-map v)
        ∙ not-mine n (is_of_worker worker v) x records
        (elim (worker x == v) as (λ b. (worker x == v) ≡ b → b ≡ false) [ true ↦ λ same. absurd (apart (sym (eqb-true (worker x) v same))) | false ↦ λ _. refl ] refl))
        refl)

-- nothing is left behind the last one
pub drop-past : {X : Type 0} (xs : List X) (i : ℕ) → length xs ≤ i → drop i xs ≡ []
drop-past [] zero over = refl
drop-past [] (suc i) over = refl
drop-past (x ∷ xs) zero over = absurd (let never : ⊥ = omega (arith, over) in never)
drop-past (x ∷ xs) (suc i) over = drop-past xs i (omega (arith, over))
