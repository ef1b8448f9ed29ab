-- Counts of received messages, and what a catch-up list needs.
use Rattle.std.proofs.Common.{◌≡◌, ℕ, ◌+◌, ◌≤◌, max, Bool, true, false, cond, not, ◌&&◌, List, [], ◌∷◌, length, map, refl, sym, ap, ◌∙◌, arith}
use Rattle.std.specs.Prelude.{Some, unwrap_or, nat_le, nat_lt}
use Rattle.std.proofs.lemmas.Bool.Decides.{nat_tests}
use Rattle.std.specs.declared.cmp.Ordering.{Ordering}
use Rattle.std.specs.declared.cmp.Ordering.TheVariants.{Less, Equal, Greater}
use Rattle.std.specs.Ordering.{eq_by_cmp, match_ordering}
use Rattle.std.specs.BTreeMap.{insert_entry, is_at}
use Rattle.std.specs.Map.{lookup}
use Rattle.charmlet_model.specs.declared.names.Elem.{Elem}
use Rattle.charmlet_model.specs.declared.kind.Kind.{Kind}
use Rattle.charmlet_model.specs.declared.state.Record.{Record}
use Rattle.charmlet_model.specs.declared.logged.CatchUpEntry.{CatchUpEntry}
use Rattle.charmlet_model.specs.declared.logged.Effect.TheVariants.{Constructed}
use Rattle.charmlet_model.specs.Names.{elem_cmp}
use Rattle.charmlet_model.specs.World.{record_at, no_record}
use Rattle.charmlet_model.proofs.Histories.{record_at-insert}
use Rattle.charmlet_record.specs.Reading.{Kinds}
use Rattle.charmlet_recovery.specs.Bases.{is_skipped}
use Rattle.charmlet_recovery.specs.Blanks.{array_is, one_if, wanted_by_catch_up, with_count}
use Rattle.charmlet_recovery.specs.Faults.{same_effect}
use Rattle.charmlet_recover.specs.Maps.{record_with, records_with}

-- ---- records of counts

chosen : (r : Ordering) (a b c a' b' c' : List (Elem × Record)) → a ≡ a' → b ≡ b' → c ≡ c' → match_ordering r a b c ≡ match_ordering r a' b' c'
chosen r a b c a' b' c' p q s = λ i. match_ordering r (p i) (q i) (s i)

mapped : (r : Ordering) (a b c : List (Elem × ℕ)) → records_with (match_ordering r a b c) ≡ match_ordering r (records_with a) (records_with b) (records_with c)
mapped Less a b c = refl
mapped Equal a b c = refl
mapped Greater a b c = refl

-- a count is noted as its record is
pub records_noted : (es : List (Elem × ℕ)) (x : Elem) (n : ℕ) → records_with (insert_entry elem_cmp es x n) ≡ insert_entry elem_cmp (records_with es) x (record_with n)
records_noted [] x n = refl
records_noted (e ∷ es) x n =
    mapped (elem_cmp x e.0) _ _ _ ∙ chosen (elem_cmp x e.0) _ _ _ _ _ _ refl refl (ap (λ (rs : List (Elem × Record)). (e.0, record_with e.1) ∷ rs) (records_noted es x n))

-- the count that is known of an element
pub count_known : (es : List (Elem × ℕ)) (x : Elem) → record_at (records_with es) x ≡ record_with (unwrap_or (lookup (is_at (elem_cmp x)) es) 0)
count_known [] x = refl
count_known (e ∷ es) x =
    elim (eq_by_cmp elem_cmp x e.0) as (λ b. unwrap_or (cond b (Some (record_with e.1)) (lookup (is_at (elem_cmp x)) (records_with es))) no_record ≡ record_with (unwrap_or (cond b (Some e.1) (lookup (is_at (elem_cmp x)) es)) 0)) [
      | true ↦ refl
      | false ↦ count_known es x
    ]

-- a count that isn't at most another one is above it
pub is_above : (a b : ℕ) → nat_lt a b ≡ not (nat_le b a)
is_above a b = grind (arith, nat_tests)

-- ---- what a catch-up list needs

-- two lists of records have the same count of received messages for each element
abbrev pub SameCounts : List (Elem × Record) → List (Elem × Record) → Type 0
SameCounts counts others = (x : Elem) → (record_at counts x).received ≡ (record_at others x).received

-- the counts of records are theirs
pub counts_of_records : (records : List (Elem × Record)) → SameCounts (records_with (map (λ e. (e.0, e.1.received)) records)) records
counts_of_records [] x = refl
counts_of_records (e ∷ es) x =
    elim (eq_by_cmp elem_cmp x e.0) as (λ b. (unwrap_or (cond b (Some (record_with e.1.received)) (lookup (is_at (elem_cmp x)) (records_with (map (λ e. (e.0, e.1.received)) es)))) no_record).received
    ≡ (unwrap_or (cond b (Some e.1) (lookup (is_at (elem_cmp x)) es)) no_record).received) [
      | true ↦ refl
      | false ↦ counts_of_records es x
    ]

counted_alike : (counts others : List (Elem × Record)) (d : CatchUpEntry) → SameCounts counts others → SameCounts (with_count counts d) (with_count others d)
counted_alike counts others d same x =
    let r = record_with (max (record_at counts d.message.to).received d.received) in
    let s = record_with (max (record_at others d.message.to).received d.received) in
    let both : r ≡ s = ap (λ n. record_with (max n d.received)) (same d.message.to) in
    ap (λ (r : Record). r.received) (record_at-insert counts d.message.to r x)
    ∙ elim (eq_by_cmp elem_cmp x d.message.to) as (λ b. (cond b r (record_at counts x)).received ≡ (cond b s (record_at others x)).received) [ true ↦ ap (λ (r : Record). r.received) both | false ↦ same x ]
    ∙ ap (λ (r : Record). r.received) (sym (record_at-insert others d.message.to s x))

module _ (manifest : Kinds) (kind : Kind) where
  -- by the same counts it needs the same
  pub same_catch_up : (counts others : List (Elem × Record)) (ds : List CatchUpEntry) → SameCounts counts others → wanted_by_catch_up manifest kind counts ds ≡ wanted_by_catch_up manifest kind others ds
  same_catch_up counts others [] same = refl
  same_catch_up counts others (d ∷ ds) same =
      let here = ap (λ n. one_if (not (nat_le d.received n) && same_effect d.effect Constructed && array_is manifest kind d.message.to.array)) (same d.message.to) in
      let rest = same_catch_up (with_count counts d) (with_count others d) ds (counted_alike counts others d same) in
      λ i. here i + rest i

  at_most_one : (b : Bool) → one_if b ≤ 1
  at_most_one true = omega arith
  at_most_one false = omega arith

  -- no catch-up list needs more blanks than it has deliveries
  pub few_of_catch_up : (counts : List (Elem × Record)) (ds : List CatchUpEntry) → wanted_by_catch_up manifest kind counts ds ≤ length ds
  few_of_catch_up counts [] = omega arith
  few_of_catch_up counts (d ∷ ds) =
      let here = at_most_one (not (is_skipped (record_at counts d.message.to) d) && same_effect d.effect Constructed && array_is manifest kind d.message.to.array) in
      let rest = few_of_catch_up (with_count counts d) ds in
      omega arith
