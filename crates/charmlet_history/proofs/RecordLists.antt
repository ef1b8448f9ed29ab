-- The records of the present world, by what is kept of its elements.
use Rattle.std.proofs.Common.{inl, inr, ◌≡◌, ℕ, ◌<◌, Bool, true, false, cond, ◌||◌, List, [], ◌∷◌, refl, sym, ap, subst, ◌∙◌}
use Rattle.std.proofs.lemmas.Bool.{lt-ltb}
use Rattle.std.specs.Prelude.{Option, Some, None, IfSome, IsSome, ◌⊎◌, is_some, unwrap_or, nat_lt, if◌then◌else◌}
use Rattle.std.specs.Ordering.{eq_by_cmp}
use Rattle.std.specs.declared.cmp.Ordering.TheVariants.{Less}
use Rattle.std.specs.List.{AllByRecursion}
use Rattle.std.specs.List.Sorted.{IsStrictlySortedBy}
use Rattle.std.specs.BTreeMap.{is_at}
use Rattle.std.specs.Map.{lookup, keys_of}
use Rattle.std.proofs.lemmas.Map.Keys.{IsDistinct-from_sorted, IsDistinct-head}
use Rattle.std.proofs.lemmas.Map.Views.{tells_apart, IfSome-lookup_from_All}
use Rattle.charmlet_model.specs.declared.names.Elem.{Elem}
use Rattle.charmlet_model.specs.declared.state.State.{State}
use Rattle.charmlet_model.specs.declared.state.Record.{Record}
use Rattle.charmlet_model.specs.Names.{elem_cmp}
use Rattle.charmlet_model.specs.World.{World, no_record, record_of}
use Rattle.charmlet_model.specs.Fit.{IsKept}
use Rattle.charmlet_model.specs.Core.{present}
use Rattle.charmlet_model.proofs.Maps.{elem_total, elem_exact, absent, same_maps}
use Rattle.charmlet_model.proofs.SoundLemmas.{sound_fit}
use Rattle.charmlet_world.specs.declared.element.Element.{Element}
use Rattle.charmlet_history.specs.Kept.{Kept, IsConsistent, core_in}
use Rattle.charmlet_world.specs.Seen.{element_at, no_element}
use Rattle.charmlet_history.specs.Records.{record_with, records_from}
use Rattle.charmlet_world.specs.Seen.{has_record}
use Rattle.charmlet_history.proofs.Assigning.{there_is}

module _ (state : Elem → Option State) where
  abbrev record_here : Elem → Element → Option Record
  record_here x e = if has_record e then Some (record_with (state x) e) else None

  all_from : (P : Elem → Type 0) (es : List (Elem × Element)) → AllByRecursion P (keys_of es) → AllByRecursion P (keys_of (records_from state es))
  all_from P [] h = tt
  all_from P (e ∷ es) h =
      elim (has_record e.1) as (λ b. AllByRecursion P (keys_of (if b then (e.0, record_with (state e.0) e.1) ∷ records_from state es else records_from state es))) [
        | true ↦ (h.0, all_from P es h.1)
        | false ↦ all_from P es h.1
      ]

  rising_from : (es : List (Elem × Element)) → IsStrictlySortedBy elem_cmp (keys_of es) → IsStrictlySortedBy elem_cmp (keys_of (records_from state es))
  unfolding IsStrictlySortedBy
  rising_from [] h = tt
  rising_from (e ∷ es) h =
      elim (has_record e.1) as (λ b. IsStrictlySortedBy elem_cmp (keys_of (if b then (e.0, record_with (state e.0) e.1) ∷ records_from state es else records_from state es))) [
        | true ↦ (all_from (λ y. elem_cmp e.0 y ≡ Less) es h.0, rising_from es h.1)
        | false ↦ rising_from es h.1
      ]

  rest_rises : (e : Elem × Element) (es : List (Elem × Element)) → IsStrictlySortedBy elem_cmp (keys_of (e ∷ es)) → IsStrictlySortedBy elem_cmp (keys_of es)
  unfolding IsStrictlySortedBy
  rest_rises e es h = h.1

  lookup-from : (x : Elem) (es : List (Elem × Element)) → IsStrictlySortedBy elem_cmp (keys_of es) →
      lookup (is_at (elem_cmp x)) (records_from state es) ≡ record_here x (element_at es x)
  lookup-from x [] rising = refl
  lookup-from x (e ∷ es) rising =
      let seen : List (Elem × Record) → Option Record = λ entries. lookup (is_at (elem_cmp x)) entries in
      let more = records_from state es in
      let r = record_with (state e.0) e.1 in
      let kept : Bool → List (Elem × Record) = λ t. if t then (e.0, r) ∷ more else more in
      let here : Bool → Option Record = λ t. if t then Some (record_with (state x) e.1) else None in
      elim (eq_by_cmp elem_cmp x e.0) as (λ b. eq_by_cmp elem_cmp x e.0 ≡ b →
      seen (kept (has_record e.1)) ≡ record_here x (unwrap_or (cond b (Some e.1) (lookup (is_at (elem_cmp x)) es)) no_element)) [
        | true ↦ λ same. elim (has_record e.1) as (λ t. seen (kept t) ≡ here t) [
          | true ↦ ap (λ b. cond b (Some r) (seen more)) same ∙ ap (λ y. Some (record_with (state y) e.1)) (sym (tells_apart elem_exact x e.0 same))
          | false ↦
              let others = IsDistinct-head (eq_by_cmp elem_cmp) e.0 (keys_of es) (IsDistinct-from_sorted elem_cmp (keys_of (e ∷ es)) rising) in
              subst (λ y. lookup (is_at (elem_cmp y)) more ≡ None) (sym (tells_apart elem_exact x e.0 same))
              (absent (is_at (elem_cmp e.0)) more (all_from (λ y. eq_by_cmp elem_cmp e.0 y ≡ false) es others))
        ]
        | false ↦ λ apart. elim (has_record e.1) as (λ t. seen (kept t) ≡ record_here x (element_at es x)) [
          | true ↦ ap (λ b. cond b (Some r) (seen more)) apart ∙ lookup-from x es (rest_rises e es rising)
          | false ↦ lookup-from x es (rest_rises e es rising)
        ]
      ] refl

-- a record that is kept is of an element that is there, or that received a message
is_either : (state : Option State) (received : ℕ) → IsSome state ⊎ (0 < received) → (is_some state || nat_lt 0 received) ≡ true
is_either (Some s) received h = refl
is_either None received (inl some) = absurd (let none : false ≡ true = some in let never : ⊥ = cc in never)
is_either None received (inr h) = lt-ltb 0 received h

is_kept : (r : Record) → IsKept r → (is_some r.state || nat_lt 0 r.received) ≡ true
is_kept r kept = is_either r.state r.received kept

found_or_not : (o : Option Record) → IfSome o IsKept →
    (if is_some (unwrap_or o no_record).state || nat_lt 0 (unwrap_or o no_record).received then Some (unwrap_or o no_record) else None) ≡ o
found_or_not None h = refl
found_or_not (Some r) h = ap (λ b. if b then Some r else None) (is_kept r h)

-- they are the world's records
pub records_are : (k : Kept) → IsConsistent k → records_from (λ x. (record_of (present (core_in k)) x).state) k.elements ≡ (present (core_in k)).records
records_are k consistent =
    let w : World = present (core_in k) in
    let fit = sound_fit (core_in k) consistent.sound in
    let state : Elem → Option State = λ x. (record_of w x).state in
    same_maps elem_cmp elem_total elem_exact (records_from state k.elements) w.records (rising_from state k.elements consistent.rising) fit.rising_records (λ x.
    let counts = consistent.counts x in
    let r = record_of w x in
    lookup-from state x k.elements consistent.rising
    ∙ (λ i. if sym (there_is k consistent x) i || nat_lt 0 (counts.received i) then Some (record { state = r.state; sent = counts.sent i; received = counts.received i }) else None)
    ∙ found_or_not (lookup (is_at (elem_cmp x)) w.records) (IfSome-lookup_from_All IsKept (is_at (elem_cmp x)) w.records fit.no_empty_record))
