-- The earliest stop, replayer by replayer.
use Rattle.std.proofs.Common.{◌≡◌, ℕ, zero, suc, ◌+◌, ◌<◌, true, false, List, [], ◌∷◌, length, refl, sym, ap, subst, ◌∙◌, arith, get_or, Result, Ok, Err}
use Rattle.std.specs.Prelude.{Option, Some, None, nat_lt, slice_get, unwrap_or}
use Rattle.std.specs.List.{All}
use Rattle.std.proofs.lemmas.Bool.{ltb-true, ltb-false}
use Rattle.std.proofs.lemmas.List.Elements.{All-nil, All-cons}
use Rattle.std.proofs.lemmas.Option.{slice_get_within}
use Rattle.charmlet_record.specs.declared.reader.Fault.{Fault}
use Rattle.charmlet_record.specs.declared.reader.ReadError.{ReadError}
use Rattle.charmlet_record.specs.declared.reader.ReadError.TheVariants.{Damaged, Memory}
use Rattle.charmlet_chare.specs.declared.chare.Chare.{Ghosts}
use Rattle.charmlet_log_scan.specs.Partition.Parts.{earlier, earliest_stop}
use Rattle.charmlet_replayers.specs.Replayer.Workers.{IsSpared, is_refused, left_at, left_in, left_of}
use Rattle.charmlet_replayers.specs.declared.replayer.replayer.Replayer.{Replayer}

pub at_item : {X : Type 0} (xs : List X) (i : ℕ) (x : X) → i < length xs → x ≡ get_or xs i x → slice_get xs i ≡ Some x
at_item [] i x less is = absurd (let no : ⊥ = omega (arith, less) in no)
at_item (y ∷ ys) zero x less is = ap Some (sym is)
at_item (y ∷ ys) (suc i) x less is = at_item ys i x (omega (arith, less)) is

-- the fault that was found
abbrev pub fault_of : {T : Type 0} → Fault → Result T ReadError → Fault
fault_of d (Err (Damaged f)) = f
fault_of d (Err Memory) = d
fault_of d (Ok x) = d

pub same_fault : {T : Type 0} (one two : Fault) → ◌≡◌ {A = Result T ReadError} (Err (Damaged one)) (Err (Damaged two)) → one ≡ two
same_fault one two is = ap (fault_of one) is

module _ {C : Type 0} {G : Ghosts C} where
  left_is : (replayers : List (Replayer C G)) (i : ℕ) (replayer : Replayer C G) → slice_get replayers i ≡ Some replayer → left_at replayers i ≡ left_of replayer.stopped
  left_is [] i replayer at = absurd (let no : ⊥ = cc in no)
  left_is (l ∷ replayers) zero replayer at = let same : l ≡ replayer = ap (λ o. unwrap_or o l) at in ap (λ (m : Replayer C G). left_of m.stopped) same
  left_is (l ∷ replayers) (suc i) replayer at = left_is replayers i replayer at

  -- the earliest stop of the first replayers, none of which was refused memory
  pub record IsUpTo (replayers : List (Replayer C G)) (i : ℕ) (first : Option Fault) : Type 0 where
    pub earliest : left_in first ≡ earliest_stop i (left_at replayers)
    pub spared : (k : ℕ) (replayer : Replayer C G) → k < i → slice_get replayers k ≡ Some replayer → is_refused replayer.stopped ≡ false

  pub up_to_none : (replayers : List (Replayer C G)) → IsUpTo replayers 0 None
  up_to_none replayers = record { earliest = refl; spared = λ k replayer less at. absurd (let no : ⊥ = omega (arith, less) in no) }

  pub one_further : (replayers : List (Replayer C G)) (i : ℕ) (first next : Option Fault) (replayer : Replayer C G) → IsUpTo replayers i first → slice_get replayers i ≡ Some replayer → left_in next ≡ earlier (left_in first) (left_of replayer.stopped) → is_refused replayer.stopped ≡ false → IsUpTo replayers (i + 1) next
  one_further replayers i first next replayer up at is spares =
      let place : suc i ≡ i + 1 = omega arith in
      record {
        earliest = is ∙ (λ j. earlier (up.earliest j) (sym (left_is replayers i replayer at) j)) ∙ ap (λ n. earliest_stop n (left_at replayers)) place;
        spared = λ k other less there.
            elim (nat_lt k i) as (λ b. nat_lt k i ≡ b → is_refused other.stopped ≡ false) [
              | true ↦ λ before. up.spared k other (ltb-true k i before) there
              | false ↦ λ not.
                  let over = ltb-false k i not in
                  let same : i ≡ k = omega (arith, less, over) in
                  let both : Some replayer ≡ Some other = sym at ∙ ap (slice_get replayers) same ∙ there in
                  let one : replayer ≡ other = ap (λ o. unwrap_or o replayer) both in
                  subst IsSpared one spares
            ] refl;
      }

  all_spared : (replayers : List (Replayer C G)) → ((k : ℕ) (replayer : Replayer C G) → slice_get replayers k ≡ Some replayer → is_refused replayer.stopped ≡ false) → All IsSpared replayers
  all_spared [] h = All-nil IsSpared
  all_spared (l ∷ replayers) h = All-cons IsSpared l replayers (h 0 l refl) (all_spared replayers (λ k replayer at. h (suc k) replayer at))

  pub at_end : (replayers : List (Replayer C G)) (i : ℕ) (first : Option Fault) → IsUpTo replayers i first → i ≡ length replayers → (left_in first ≡ earliest_stop (length replayers) (left_at replayers)) × All IsSpared replayers
  at_end replayers i first up end = (
    up.earliest ∙ ap (λ n. earliest_stop n (left_at replayers)) end,
    all_spared replayers (λ k replayer at. up.spared k replayer (let less = slice_get_within replayers k replayer at in omega (arith, less, end)) at),
  )
