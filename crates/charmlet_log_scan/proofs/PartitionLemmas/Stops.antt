-- The earliest place at which a replayer stops.
use Rattle.std.proofs.Common.{◌≡◌, ℕ, zero, suc, ◌<◌, ◌≤◌, Bool, true, false, cond, List, [], ◌∷◌, refl, sym, ap, subst, ◌∙◌, arith}
use Rattle.std.proofs.lemmas.Bool.{ltb-true, ltb-false, eq-eqb}
use Rattle.std.specs.Prelude.{Option, Some, None, nat_lt, option_map}
use Rattle.charmlet_model.specs.declared.names.Elem.{Elem}
use Rattle.charmlet_model.specs.declared.state.Record.{Record}
use Rattle.charmlet_record.specs.declared.positioned.Positioned.{Positioned}
use Rattle.charmlet_recovery.specs.Faults.{first_failure}
use Rattle.charmlet_log_scan.specs.Partition.Parts.{Worked, Stopped, Done, stop_of, earlier, earliest_stop, first_left, is_of_worker}

-- What replayers come to: each of them to its own, where there is no first fault; and else none stops
-- before it, and the receiver's replayer stops there.
pub record AreStopsOf (first : Option ℕ) (ends : (Elem → Bool) → List (Elem × Record)) (come : (Elem → Bool) → Worked) : Type 0 where
  pub whole : first ≡ None → (mine : Elem → Bool) → come mine ≡ Done (ends mine)
  pub later : (l : ℕ) → first ≡ Some l → (mine : Elem → Bool) (k : ℕ) → come mine ≡ Stopped k → k ≤ l
  pub found : (l : ℕ) → first ≡ Some l → (x : Elem) × ((mine : Elem → Bool) → mine x ≡ true → come mine ≡ Stopped l)

stopped : (o : Worked) (k : ℕ) → stop_of o ≡ Some k → o ≡ Stopped k
stopped (Stopped j) k h = let same : j ≡ k = cc in ap Stopped same
stopped (Done records) k h = absurd (let no : ⊥ = cc in no)

last : (w n : ℕ) → w < suc n → nat_lt w n ≡ false → w ≡ n
last w n below not = let over = ltb-false w n not in omega (arith, below, over)

bound-earlier : (a b : Option ℕ) (i : ℕ) → ((k : ℕ) → a ≡ Some k → k ≤ i) → ((k : ℕ) → b ≡ Some k → k ≤ i) → (k : ℕ) → earlier a b ≡ Some k → k ≤ i
bound-earlier None b i one two k is = two k is
bound-earlier (Some j) None i one two k is = one k is
bound-earlier (Some j) (Some l) i one two k is =
    elim (nat_lt j l) as (λ b. Some (cond b l j) ≡ Some k → k ≤ i) [
      | true ↦ λ same. two k same
      | false ↦ λ same. one k same
    ] is

earlier-left : (o : Option ℕ) (i : ℕ) → ((k : ℕ) → o ≡ Some k → k ≤ i) → earlier (Some i) o ≡ Some i
earlier-left None i h = refl
earlier-left (Some j) i h =
    let no_more : j ≤ i = h j refl in
    elim (nat_lt i j) as (λ b. nat_lt i j ≡ b → Some (cond b j i) ≡ Some i) [
      | true ↦ λ less. absurd (let more = ltb-true i j less in let never : ⊥ = omega (arith, more, no_more) in never)
      | false ↦ λ _. refl
    ] refl

earlier-right : (o : Option ℕ) (i : ℕ) → ((k : ℕ) → o ≡ Some k → k ≤ i) → earlier o (Some i) ≡ Some i
earlier-right None i h = refl
earlier-right (Some j) i h =
    let no_more : j ≤ i = h j refl in
    elim (nat_lt j i) as (λ b. nat_lt j i ≡ b → Some (cond b i j) ≡ Some i) [
      | true ↦ λ _. refl
      | false ↦ λ not. let over = ltb-false j i not in let same : j ≡ i = omega (arith, over, no_more) in ap Some same
    ] refl

module _ (stop : ℕ → Option ℕ) where
  none-stops : (n : ℕ) → ((w : ℕ) → stop w ≡ None) → earliest_stop n stop ≡ None
  none-stops zero h = refl
  none-stops (suc n) h = ap (λ o. earlier o (stop n)) (none-stops n h) ∙ h n

  -- no replayer stops before this place
  abbrev IsBound : ℕ → Type 0
  IsBound i = (w k : ℕ) → stop w ≡ Some k → k ≤ i

  bound-earliest : (i n : ℕ) → IsBound i → (k : ℕ) → earliest_stop n stop ≡ Some k → k ≤ i
  bound-earliest i zero h k is = absurd (let no : ⊥ = cc in no)
  bound-earliest i (suc n) h k is = bound-earlier (earliest_stop n stop) (stop n) i (bound-earliest i n h) (h n) k is

  earliest-is : (i n w : ℕ) → IsBound i → w < n → stop w ≡ Some i → earliest_stop n stop ≡ Some i
  earliest-is i zero w h below is = absurd (let no : ⊥ = omega (arith, below) in no)
  earliest-is i (suc n) w h below is =
      elim (nat_lt w n) as (λ b. nat_lt w n ≡ b → earlier (earliest_stop n stop) (stop n) ≡ Some i) [
        | true ↦ λ less.
            ap (λ o. earlier o (stop n)) (earliest-is i n w h (ltb-true w n less) is) ∙ earlier-left (stop n) i (h n)
        | false ↦ λ not.
            let same : w ≡ n = last w n below not in
            ap (earlier (earliest_stop n stop)) (ap stop (sym same) ∙ is) ∙ earlier-right (earliest_stop n stop) i (bound-earliest i n h)
      ] refl

-- the replayers' earliest stop is the first fault
pub earliest-first : (worker : Elem → ℕ) (workers : ℕ) (first : Option ℕ) (ends : (Elem → Bool) → List (Elem × Record)) (come : (Elem → Bool) → Worked) →
    ((x : Elem) → worker x < workers) → AreStopsOf first ends come → earliest_stop workers (λ w. stop_of (come (is_of_worker worker w))) ≡ first
earliest-first worker workers None ends come within stops =
    none-stops (λ w. stop_of (come (is_of_worker worker w))) workers (λ w. ap stop_of (stops.whole refl (is_of_worker worker w)))
earliest-first worker workers (Some i) ends come within stops =
    let at = stops.found i refl in
    earliest-is (λ w. stop_of (come (is_of_worker worker w))) i workers (worker at.0)
    (λ w k is. stops.later i refl (is_of_worker worker w) k (stopped (come (is_of_worker worker w)) k is))
    (within at.0)
    (ap stop_of (at.1 (is_of_worker worker (worker at.0)) (eq-eqb (worker at.0) (worker at.0) refl)))

-- the first record is a fault, and its receiver's replayer stops there
pub first-place : (l : ℕ) (x : Elem) (ends : (Elem → Bool) → List (Elem × Record)) (come : (Elem → Bool) → Worked) →
    ((mine : Elem → Bool) (k : ℕ) → come mine ≡ Stopped k → k ≤ l) → ((mine : Elem → Bool) → mine x ≡ true → come mine ≡ Stopped l) → AreStopsOf (Some l) ends come
first-place l x ends come late here = record {
  whole = λ none. absurd (let no : ⊥ = cc in no);
  later = λ i is mine k at. let same : l ≡ i = cc in subst (λ j. k ≤ j) same (late mine k at);
  found = λ i is. let same : l ≡ i = cc in (x, λ mine own. here mine own ∙ ap Stopped same);
}

-- where the first record passes, all stop as they do of the others
pub one-place-on : (first : Option ℕ) (ends : (Elem → Bool) → List (Elem × Record)) (come come_next : (Elem → Bool) → Worked) → ((mine : Elem → Bool) → come mine ≡ come_next mine) →
    AreStopsOf first ends come_next → AreStopsOf first ends come
one-place-on first ends come come_next same stops = record {
  whole = λ none mine. same mine ∙ stops.whole none mine;
  later = λ l is mine k at. stops.later l is mine k (sym (same mine) ∙ at);
  found = λ l is. let at = stops.found l is in (at.0, λ mine own. same mine ∙ at.1 mine own);
}

pub nothing-stops : (records : List (Elem × Record)) (part : (Elem → Bool) → List (Elem × Record)) → AreStopsOf None part (λ mine. Done (part mine))
nothing-stops records part = record {
  whole = λ none mine. refl;
  later = λ l is. absurd (let no : ⊥ = cc in no);
  found = λ l is. absurd (let no : ⊥ = cc in no);
}

-- no fault is left where no test fails
pub none-left : {X : Type 0} (tests : List Bool) (ps : List (Positioned X)) → first_failure tests ≡ None → first_left tests ps ≡ None
none-left [] ps h = refl
none-left (b ∷ tests) [] h = refl
none-left (true ∷ tests) (p ∷ ps) h = none-left tests ps (none-more (first_failure tests) h)
  where
    none-more : (o : Option ℕ) → option_map suc o ≡ None → o ≡ None
    none-more None h = refl
    none-more (Some j) h = absurd (let no : ⊥ = cc in no)
none-left (false ∷ tests) (p ∷ ps) h = absurd (let no : ⊥ = cc in no)
