-- Each step keeps the authority and its fragments equal.
use Rattle.std.proofs.Common.{◌≡◌, ◌≢◌, ◌⊎◌, ℕ, zero, suc, ◌+◌, ◌<◌, List, [], ◌∷◌, ◌++◌, length, set, Option, Some, None, Bool, true, false, true≢false, cond, eqb, eq-eqb, ne_eqb, refl, sym, ap, ◌∙◌, subst, ⊎_elim, inl, inr, arith}
use Rattle.std.specs.Prelude.{slice_get, slice_set}
use mathlib.Core.Option.{some, none, some-ne-none, some-injective}
use mathlib.Core.Logic.{dite}
use native.Mathlib.Decide.{ℕ_discrete}
use lib.ListN.{get_elem?}
use Rattle.atomic_table.specs.Table.{State, Me, Step, Act, keeps, step, Allows, Splits, Joins}
use Rattle.atomic_table.proofs.Lists.{at_set}
use Rattle.charmlet_locks.specs.declared.ghost_auth.rule.View.{View}
use Rattle.charmlet_locks.specs.GhostAuth.Agreement.{keeper, holder, with_fragment, met, nobody, Fits, Agrees, added, updated, Adds, Updates, UpdatesTo, Ends, IsFragment}

-- lists

within : {A : Type 0} (xs : List A) (n : ℕ) (a : A) → slice_get xs n ≡ Some a → n < length xs
within [] n a e = absurd (cc)
within (x ∷ xs) zero a e = omega arith
within (x ∷ xs) (suc n) a e = omega (arith, within xs n a e)

front : {A : Type 0} (xs ys : List A) (n : ℕ) (a : A) → slice_get xs n ≡ Some a → slice_get (xs ++ ys) n ≡ Some a
front [] ys n a e = absurd (cc)
front (x ∷ xs) ys zero a e = e
front (x ∷ xs) ys (suc n) a e = front xs ys n a e

last : {A : Type 0} (xs : List A) (a : A) → slice_get (xs ++ a ∷ []) (length xs) ≡ Some a
last [] a = refl
last (x ∷ xs) a = last xs a

set_same : {A : Type 0} (xs : List A) (n : ℕ) (a b : A) → slice_get xs n ≡ Some a → slice_get (slice_set xs n b) n ≡ Some b
set_same [] n a b e = absurd (cc)
set_same (x ∷ xs) zero a b e = refl
set_same (x ∷ xs) (suc n) a b e = set_same xs n a b e

set_other : {A : Type 0} (xs : List A) (n m : ℕ) (b : A) → m ≢ n → slice_get (slice_set xs n b) m ≡ slice_get xs m
set_other [] n m b apart = refl
set_other (x ∷ xs) zero zero b apart = absurd (apart refl)
set_other (x ∷ xs) zero (suc m) b apart = refl
set_other (x ∷ xs) (suc n) zero b apart = refl
set_other (x ∷ xs) (suc n) (suc m) b apart = set_other xs n m b (λ e. apart (ap suc e))

-- what stands in a list with one more is what stood there, or the new one at the end
at_end : {A : Type 0} (l : List A) (a b : A) (j : ℕ) → get_elem? (l ++ a ∷ []) j ≡ some b → (get_elem? l j ≡ some b) ⊎ ((a ≡ b) × (j ≡ length l))
at_end [] a b zero e = inr (some-injective a b e, refl)
at_end [] a b (suc j) e = absurd (some-ne-none b (sym e))
at_end (x ∷ xs) a b zero e = inl e
at_end (x ∷ xs) a b (suc j) e = ⊎_elim (λ t. inl t) (λ (t : (a ≡ b) × (j ≡ length xs)). inr (t.0, ap suc t.1)) (at_end xs a b j e)

-- who has a fragment, after the fragment n has gone to `by`
moved : (ℕ → ℕ) → ℕ → ℕ → ℕ → ℕ
moved owner n by k = cond (eqb k n) by (owner k)

moved_here : (owner : ℕ → ℕ) (n by : ℕ) → moved owner n by n ≡ by
unfolding moved
moved_here owner n by = ap (λ b. cond b by (owner n)) (eq-eqb n n refl)

moved_else : (owner : ℕ → ℕ) (n by k : ℕ) → k ≢ n → moved owner n by k ≡ owner k
unfolding moved
moved_else owner n by k apart = ap (λ b. cond b by (owner k)) (ne_eqb k n apart)

off : {A : Type 0} → false ≡ true → A
off e = absurd (true≢false (sym e))

module _ {D : Type 0} where
  all_set : (F : ℕ → View D → Type 0) (views : List (View D)) (by : ℕ) (w : View D) → F by w → ((j : ℕ) (u : View D) → j ≢ by → get_elem? views j ≡ some u → F j u) → (j : ℕ) (u : View D) → get_elem? (set views by w) j ≡ some u → F j u
  all_set F views by w mine others j u e =
      ⊎_elim (λ (x : (j ≡ by) × (w ≡ u)). subst (λ (y : ℕ × View D). F y.0 y.1) (λ i. (sym x.0 i, x.1 i)) mine)
      (λ (x : (j ≢ by) × (get_elem? views j ≡ some u)). others j u x.0 x.1)
      (at_set views by j w u e)

  pub begins : Agrees {D = D} (keeper [] ∷ [])
  begins = (0, [], λ _. 0, one)
    where
      one : (by : ℕ) (v : View D) → get_elem? (keeper [] ∷ []) by ≡ some v → Fits 0 [] (λ _. 0) by v
      one zero v e = subst (Fits 0 [] (λ _. 0) 0) (some-injective _ _ e) ((λ _. (refl, refl)), (λ c. off c))
      one (suc by) v e = absurd (some-ne-none v (sym e))

  -- a value behind the others
  adds_view : (views : List (View D)) (by : ℕ) (v : View D) (x : D) → v.keeps ≡ true → Agrees views → get_elem? views by ≡ some v → Agrees (set views by (added (some x) v))
  adds_view views by v x keeping h at =
      let mine = (h.3 by v at).0 keeping in
      let n = length v.values in
      let values : List (Option D) = v.values ++ Some x ∷ [] in (
        h.0,
        values,
        moved h.2 n by,
        all_set (Fits h.0 values (moved h.2 n by)) views by (added (some x) v)
            ((λ _. (mine.0, refl)), (λ _. (moved_here h.2 n by, last v.values (Some x))))
            (λ j u apart e.
            let theirs = h.3 j u e in (
              (λ k. absurd (apart ((theirs.0 k).0 ∙ sym mine.0))),
              (λ k.
                  let there : slice_get v.values u.number ≡ Some u.value = subst (λ (l : List (Option D)). slice_get l u.number ≡ Some u.value) (sym mine.1) (theirs.1 k).1 in
                  let inside : u.number < n = within v.values u.number u.value there in
                  let other : u.number ≢ n = λ (same : u.number ≡ n). omega arith in
                  (moved_else h.2 n by u.number other ∙ (theirs.1 k).0, front v.values (Some x ∷ []) u.number u.value there)),
            )),
      )

  -- no other seat has the fragment that is with the authority
  alone : (seat : ℕ) (values : List (Option D)) (owner : ℕ → ℕ) (by j : ℕ) (v u : View D) → Fits seat values owner by v → v.holds ≡ true → Fits seat values owner j u → u.holds ≡ true → j ≢ by → u.number ≢ v.number
  alone seat values owner by j v u mine m theirs t apart same = apart (sym (theirs.1 t).0 ∙ ap owner same ∙ (mine.1 m).0)

  -- the fragment's place in the authority is written, and the seat is w
  writes : (views : List (View D)) (by : ℕ) (v w : View D) (new : Option D) → v.keeps ≡ true → v.holds ≡ true → w.values ≡ slice_set v.values v.number new → (w.holds ≡ true → (w.number ≡ v.number) × (w.value ≡ new)) → Agrees views → get_elem? views by ≡ some v → Agrees (set views by w)
  writes views by v w new keeping holding changed named h at =
      let here = h.3 by v at in
      let mine = here.0 keeping in
      let place : slice_get v.values v.number ≡ Some v.value = subst (λ (l : List (Option D)). slice_get l v.number ≡ Some v.value) (sym mine.1) (here.1 holding).1 in
      let values : List (Option D) = slice_set v.values v.number new in (
        h.0,
        values,
        h.2,
        all_set (Fits h.0 values h.2) views by w (
          (λ _. (mine.0, changed)),
          (λ k.
              let n = named k in
              subst (λ (p : ℕ × Option D). (h.2 p.0 ≡ by) × (slice_get values p.0 ≡ Some p.1)) (λ i. (sym n.0 i, sym n.1 i)) ((here.1 holding).0, set_same v.values v.number v.value new place)),
        )
            (λ j u apart e.
            let theirs = h.3 j u e in (
              (λ k. absurd (apart ((theirs.0 k).0 ∙ sym mine.0))),
              (λ k.
                  let other : u.number ≢ v.number = alone h.0 h.1 h.2 by j v u here holding theirs k apart in
                  let there : slice_get v.values u.number ≡ Some u.value = subst (λ (l : List (Option D)). slice_get l u.number ≡ Some u.value) (sym mine.1) (theirs.1 k).1 in
                  ((theirs.1 k).0, set_other v.values v.number u.number new other ∙ there)),
            )),
      )

  -- what the rule says of the fragment that is with the authority
  learns : (views : List (View D)) (by : ℕ) (v : View D) → v.keeps ≡ true → v.holds ≡ true → Agrees views → get_elem? views by ≡ some v → slice_get v.values v.number ≡ Some v.value
  learns views by v keeping holding h at =
      let here = h.3 by v at in
      subst (λ (l : List (Option D)). slice_get l v.number ≡ Some v.value) (sym (here.0 keeping).1) (here.1 holding).1

  -- nothing is written
  stays : (views : List (View D)) (by : ℕ) (v : View D) → v.keeps ≡ true → v.holds ≡ true → Agrees views → get_elem? views by ≡ some v → Agrees (set views by (with_fragment v.values v.number v.value))
  stays views by v keeping holding h at =
      let here = h.3 by v at in
      (h.0, h.1, h.2, all_set (Fits h.0 h.1 h.2) views by (with_fragment v.values v.number v.value) ((λ _. here.0 keeping), (λ _. here.1 holding)) (λ j u apart e. h.3 j u e))

  joins_view : (views : List (View D)) (by : ℕ) (v : View D) (other : ℕ) (w : View D) → v.keeps ≡ true → w.holds ≡ true → Agrees views → get_elem? views by ≡ some v → ¬ (other ≡ by) → get_elem? (set views by (met v w)) other ≡ some w → Agrees (set (set views by (met v w)) other nobody)
  joins_view views by v other w keeping holding h at apart there =
      let both = met v w in
      let mine = (h.3 by v at).0 keeping in
      let was : get_elem? views other ≡ some w = ⊎_elim (λ (t : (other ≡ by) × (both ≡ w)). absurd (apart t.0)) (λ (t : (other ≢ by) × (get_elem? views other ≡ some w)). t.1) (at_set views by other both w there) in
      let theirs = (h.3 other w was).1 holding in
      let owner = moved h.2 w.number by in
      let Old : ℕ → View D → Type 0 = λ j u. j ≢ other → Fits h.0 h.1 owner j u in
      let old : (j : ℕ) (u : View D) → get_elem? (set views by both) j ≡ some u → Old j u =
      all_set Old views by both (λ _. ((λ _. mine), (λ _. (moved_here h.2 w.number by, theirs.1))))
      (λ j u _ e far.
      let its = h.3 j u e in (
        its.0,
        (λ k.
            let elsewhere : u.number ≢ w.number = λ same. far (sym (its.1 k).0 ∙ ap h.2 same ∙ theirs.0) in
            (moved_else h.2 w.number by u.number elsewhere ∙ (its.1 k).0, (its.1 k).1)),
      )) in
      (h.0, h.1, owner, all_set (Fits h.0 h.1 owner) (set views by both) other nobody ((λ k. off k), (λ k. off k)) (λ j u far e. old j u e far))

  splits_view : (views : List (View D)) (by : ℕ) (v : View D) → v.keeps ≡ true → v.holds ≡ true → Agrees views → get_elem? views by ≡ some v → Agrees (set views by (keeper v.values) ++ holder v.number v.value ∷ [])
  splits_view views by v keeping holding h at =
      let here = h.3 by v at in
      let mine = here.0 keeping in
      let kept = set views by (keeper v.values) in
      let owner = moved h.2 v.number (length kept) in
      let old : (j : ℕ) (u : View D) → get_elem? kept j ≡ some u → Fits h.0 h.1 owner j u =
      all_set (Fits h.0 h.1 owner) views by (keeper v.values) ((λ _. mine), (λ k. off k))
      (λ j u apart e.
      let its = h.3 j u e in (
        its.0,
        (λ k.
            let other = alone h.0 h.1 h.2 by j v u here holding its k apart in
            (moved_else h.2 v.number (length kept) u.number other ∙ (its.1 k).0, (its.1 k).1)),
      )) in
      let new : Fits h.0 h.1 owner (length kept) (holder v.number v.value) = ((λ k. off k), (λ _. (moved_here h.2 v.number (length kept), (here.1 holding).1))) in (
        h.0,
        h.1,
        owner,
        λ j u e. ⊎_elim (λ was. old j u was)
            (λ (t : (holder v.number v.value ≡ u) × (j ≡ length kept)). subst (λ (y : ℕ × View D). Fits h.0 h.1 owner y.0 y.1) (λ i. (sym t.1 i, t.0 i)) new)
            (at_end kept (holder v.number v.value) u j e),
      )

  -- the same as the table asks it

  pub adds : (id : ℕ) (me : Me D (View D)) (slots i a b : ℕ) (f : ℕ → ℕ) (x : D) → me.0.keeps ≡ true → Allows (λ s. Agrees s.views) slots id me i f (Adds (step slots i a b (some x)) me)
  adds id me slots i a b f x keeping s h homes at bound = (added (some x) me.0, keeps, tt, adds_view s.views id me.0 x keeping h at, refl)

  pub changes : (id : ℕ) (me : Me D (View D)) (slots i a b : ℕ) (f : ℕ → ℕ) (x : D) → me.0.keeps ≡ true → me.0.holds ≡ true → Allows (λ s. Agrees s.views) slots id me i f (Updates (step slots i a b (some x)) me)
  changes id me slots i a b f x keeping holding s h homes at bound = (updated (some x) me.0, keeps, tt, writes s.views id me.0 (updated (some x) me.0) (Some x) keeping holding refl (λ _. (refl, refl)) h at, (refl, learns s.views id me.0 keeping holding h at))

  pub changes_to : (id : ℕ) (me : Me D (View D)) (slots i a b : ℕ) (f : ℕ → ℕ) (x : D) → me.0.keeps ≡ true → me.0.holds ≡ true → Allows (λ s. Agrees s.views) slots id me i f (UpdatesTo x (step slots i a b none) me)
  changes_to id me slots i a b f x keeping holding s h homes at bound = (updated (some x) me.0, keeps, tt, writes s.views id me.0 (updated (some x) me.0) (Some x) keeping holding refl (λ _. (refl, refl)) h at, (refl, learns s.views id me.0 keeping holding h at))

  pub compares : (id : ℕ) (me : Me D (View D)) (slots i a b : ℕ) (f : ℕ → ℕ) → me.0.keeps ≡ true → me.0.holds ≡ true → Allows (λ s. Agrees s.views) slots id me i f (Updates (step slots i a b none) me)
  compares id me slots i a b f keeping holding s h homes at bound = (updated none me.0, keeps, tt, stays s.views id me.0 keeping holding h at, (refl, learns s.views id me.0 keeping holding h at))

  pub ends : (id : ℕ) (me : Me D (View D)) (slots i a b : ℕ) (f : ℕ → ℕ) → me.0.keeps ≡ true → me.0.holds ≡ true → Allows (λ s. Agrees s.views) slots id me i f (Ends (step slots i a b none) me)
  ends id me slots i a b f keeping holding s h homes at bound =
      let w = keeper (slice_set me.0.values me.0.number None) in
      (w, keeps, tt, writes s.views id me.0 w None keeping holding refl (λ k. off k) h at, (refl, learns s.views id me.0 keeping holding h at))

  pub joins : (id : ℕ) (v : View D) (other : ℕ) (w : View D) → v.keeps ≡ true → w.holds ≡ true → Joins (λ (s : State D (View D)). Agrees s.views) id v other w (met v w) nobody
  joins id v other w keeping holding s h at apart there = joins_view s.views id v other w keeping holding h at apart there

  pub splits : (id : ℕ) (v : View D) → v.keeps ≡ true → v.holds ≡ true → Splits (λ (s : State D (View D)). Agrees s.views) id v (keeper v.values) (holder v.number v.value)
  splits id v keeping holding s h at = splits_view s.views id v keeping holding h at

  -- the seat of a fragment's badge is a fragment's
  pub fragment_holds : (views : List (View D)) (m : View D) → IsFragment views → views ≡ m ∷ [] → m.holds ≡ true
  fragment_holds views m s e = let same : m ≡ s.0 = cc (e, s.1) in ap (λ (w : View D). w.holds) same ∙ s.2
