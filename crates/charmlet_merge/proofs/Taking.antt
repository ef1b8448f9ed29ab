-- Shelves of a replayer that are taken one after the other.
use Rattle.std.proofs.Common.{◌≡◌, ◌≢◌, ℕ, suc, ◌+◌, ◌%◌, ◌<◌, ◌==◌, Bool, true, false, ◌&&◌, List, [], ◌∷◌, length, get_or, refl, sym, ap, subst, ◌∙◌, arith, if◌then◌else◌, lt-ltb}
use Rattle.std.specs.Prelude.{nat_lt, slice_set}
use Rattle.std.proofs.lemmas.Bool.{eq-eqb, eqb-true, ltb-false, ltb-true}
use Rattle.std.proofs.lemmas.List.{get_or-set_other, get_or-set_same, length-set}
use Rattle.charmlet_shelf.specs.Shelf.{View}
use Rattle.charmlet_merge.specs.Taken.{HaveTaken}

-- those before this place were taken
pub record IsTaking (worker workers : ℕ) (old theirs : List View) (place : ℕ) (rest now : List View) : Type 0 where
  pub left : place + length rest ≡ length theirs
  pub rest_is : (q : ℕ) (d : View) → get_or rest q d ≡ get_or theirs (place + q) d
  pub count : length now ≡ length old
  pub each : (p : ℕ) (d : View) → p < length old → get_or now p d ≡ (if nat_lt p place && (p % workers == worker) then get_or theirs p d else get_or old p d)

differ : (b : Bool) → b ≡ true → b ≡ false → ⊥
differ b is not = let contra : true ≡ false = sym is ∙ not in let never : ⊥ = cc in never

never-below : (p : ℕ) → nat_lt p 0 ≡ false
never-below p =
    elim (nat_lt p 0) as (λ b. nat_lt p 0 ≡ b → b ≡ false) [
      | true ↦ λ less. let is = ltb-true p 0 less in absurd (let never : ⊥ = omega (arith, is) in never)
      | false ↦ λ _. refl
    ] refl

-- another number is below one more exactly if it is below
same-below : (p place : ℕ) → p ≢ place → nat_lt p (place + 1) ≡ nat_lt p place
same-below p place apart =
    elim (nat_lt p place) as (λ b. nat_lt p place ≡ b → nat_lt p (place + 1) ≡ b) [
      | true ↦ λ less. let is = ltb-true p place less in lt-ltb p (place + 1) (omega (arith, is))
      | false ↦ λ over.
          let is = ltb-false p place over in
          elim (nat_lt p (place + 1)) as (λ b. nat_lt p (place + 1) ≡ b → b ≡ false) [
            | true ↦ λ less. let more = ltb-true p (place + 1) less in absurd (apart (omega (arith, is, more)))
            | false ↦ λ _. refl
          ] refl
    ] refl

module _ (worker workers : ℕ) (old theirs : List View) where
  pub begins : length old ≡ length theirs → IsTaking worker workers old theirs 0 theirs old
  begins long = record {
    left = omega arith;
    rest_is = λ q d. let same : q ≡ 0 + q = omega arith in ap (λ k. get_or theirs k d) same;
    count = refl;
    each = λ p d within. sym (ap (λ b. if b && (p % workers == worker) then get_or theirs p d else get_or old p d) (never-below p));
  }

  module _ (place : ℕ) (shelf : View) (more now : List View) (taking : IsTaking worker workers old theirs place (shelf ∷ more) now) (long : length old ≡ length theirs) where
    pub within_place : place < length now
    within_place = let left = taking.left in let count = taking.count in omega (arith, left, count, long)

    this_one : (d : View) → get_or theirs place d ≡ shelf
    this_one d = let same : place ≡ place + 0 = omega arith in ap (λ k. get_or theirs k d) same ∙ sym (taking.rest_is 0 d)

    more_left : (place + 1) + length more ≡ length theirs
    more_left = let left = taking.left in omega (arith, left)

    more_is : (q : ℕ) (d : View) → get_or more q d ≡ get_or theirs (place + 1 + q) d
    more_is q d = let same : place + suc q ≡ place + 1 + q = omega arith in taking.rest_is (suc q) d ∙ ap (λ k. get_or theirs k d) same

    abbrev after : Bool → List View
    after is_taken = if is_taken then slice_set now place shelf else now

    same_count : (b : Bool) → length (after b) ≡ length old
    same_count true = length-set now place shelf ∙ taking.count
    same_count false = taking.count

    -- the one at this place
    here : (b : Bool) → (place % workers == worker) ≡ b → (d : View) → get_or (after b) place d ≡ (if nat_lt place (place + 1) && (place % workers == worker) then get_or theirs place d else get_or old place d)
    here true test d =
        let low : nat_lt place (place + 1) ≡ true = lt-ltb place (place + 1) (omega arith) in
        get_or-set_same now place shelf d within_place ∙ sym (this_one d)
        ∙ sym (λ i. if low i && test i then get_or theirs place d else get_or old place d)
    here false test d =
        let low : nat_lt place (place + 1) ≡ true = lt-ltb place (place + 1) (omega arith) in
        let itself : nat_lt place place ≡ false = (elim (nat_lt place place) as (λ b. nat_lt place place ≡ b → b ≡ false) [ true ↦ λ less. let is = ltb-true place place less in absurd (let never : ⊥ = omega (arith, is) in never) | false ↦ λ _. refl ] refl) in
        let inside : place < length old = (let w = within_place in let count = taking.count in omega (arith, w, count)) in
        taking.each place d inside ∙ (λ i. if itself i && (place % workers == worker) then get_or theirs place d else get_or old place d)
        ∙ sym (λ i. if low i && test i then get_or theirs place d else get_or old place d)

    -- and another one
    elsewhere : (b : Bool) (p : ℕ) (d : View) → p < length old → p ≢ place → get_or (after b) p d ≡ (if nat_lt p (place + 1) && (p % workers == worker) then get_or theirs p d else get_or old p d)
    elsewhere true p d inside apart =
        get_or-set_other now place p shelf d apart ∙ taking.each p d inside
        ∙ ap (λ b. if b && (p % workers == worker) then get_or theirs p d else get_or old p d) (sym (same-below p place apart))
    elsewhere false p d inside apart =
        taking.each p d inside ∙ ap (λ b. if b && (p % workers == worker) then get_or theirs p d else get_or old p d) (sym (same-below p place apart))

    pub one_more : (b : Bool) → (place % workers == worker) ≡ b → IsTaking worker workers old theirs (place + 1) more (after b)
    one_more b test = record {
      left = more_left;
      rest_is = more_is;
      count = same_count b;
      each = λ p d inside.
          elim (p == place) as (λ e. (p == place) ≡ e → get_or (after b) p d ≡ (if nat_lt p (place + 1) && (p % workers == worker) then get_or theirs p d else get_or old p d)) [
            | true ↦ λ same. subst (λ q. get_or (after b) q d ≡ (if nat_lt q (place + 1) && (q % workers == worker) then get_or theirs q d else get_or old q d)) (sym (eqb-true p place same)) (here b test d)
            | false ↦ λ apart. elsewhere b p d inside (λ one. differ (p == place) (eq-eqb p place one) apart)
          ] refl;
    }

  -- all were taken
  pub all_taken : (place : ℕ) (now : List View) → length old ≡ length theirs → IsTaking worker workers old theirs place [] now → HaveTaken worker workers old theirs now
  all_taken place now long taking = record {
    count = taking.count;
    each = λ p d inside.
        let left = taking.left in
        let low : nat_lt p place ≡ true = lt-ltb p place (omega (arith, left, inside, long)) in
        taking.each p d inside ∙ ap (λ b. if b && (p % workers == worker) then get_or theirs p d else get_or old p d) low;
  }
