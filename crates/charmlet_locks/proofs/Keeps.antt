-- Each step keeps the rule.
use Rattle.std.proofs.Common.{◌≡◌, ◌≢◌, ℕ, zero, suc, ◌+◌, ◌-◌, ◌*◌, ◌<◌, List, [], ◌∷◌, ◌++◌, length, map, replicate, set, get_or, Option, Some, None, refl, sym, ap, ◌∙◌, subst, ⊎_elim, eqb, arith, length-set}
use Rattle.std.proofs.lemmas.List.{map-append, length-map, length-replicate, get_or-set_same, get_or-set_other, get_or-replicate}
use Rattle.std.specs.List.{range_with_len}
use mathlib.Core.Option.{some, none, some-ne-none, some-injective}
use mathlib.Core.Option as maybe
use mathlib.Core.Logic.{dite}
use native.Mathlib.Decide.{ℕ_discrete}
use lib.ListN.{get_elem?}
use prog.Atomic.{either}
use Rattle.atomic_table.specs.Table.{State, Me, Act, keeps, takes, gives, chain, step, stepped, opening, Allows, Enters, Valid, homes_after, carried_after, rest}
use Rattle.atomic_table.proofs.Lists.{at_set, at_snoc, set_here, set_else, exchanged}
use Rattle.charmlet_locks.specs.declared.rule.GhostPlaces.{GhostPlaces}
use Rattle.charmlet_locks.specs.declared.rule.GhostPlaces.TheVariants.{Nothing, Vacant, Begun}
use Rattle.charmlet_locks.specs.Locks.{AreInOrder}
use Rattle.charmlet_locks.specs.Home.{word_of, first_words, Fits, vacancies, IsHome, HoldsFrom, IsKept, Takes, Sits, Begins, Stays, Gives}

-- ---- words

word_apart : (j k : ℕ) → j ≢ k → word_of j ≢ word_of k
word_apart j k ne e = ne (omega arith)

not_first : (k : ℕ) → 0 ≢ word_of k
not_first k e = absurd (omega arith)

taken_at : (i m : ℕ) → 0 < i → i < suc m → get_or {A = ℕ} (0 ∷ replicate m 1) i 0 ≡ 1
taken_at zero m a b = absurd (omega arith)
taken_at (suc i) m a b = get_or-replicate m i 1 0 (omega arith)

-- ---- what is seen of word 0

fits_set : (words : List ℕ) (k n by : ℕ) (v : GhostPlaces) → Fits words by v → Fits (set words (word_of k) n) by v
fits_set words k n by Nothing f = tt
fits_set words k n by Vacant f = (f.0, get_or-set_other words (word_of k) 0 n 0 (not_first k) ∙ f.1)
fits_set words k n by Begun f = λ e. f (sym (get_or-set_other words (word_of k) 0 n 0 (not_first k)) ∙ e)

all_seen : (words after : List ℕ) (views : List GhostPlaces) (id : ℕ) (w : GhostPlaces) → Fits after id w
    → ((by : ℕ) (v : GhostPlaces) → by ≢ id → Fits words by v → Fits after by v)
    → ((by : ℕ) (v : GhostPlaces) → get_elem? views by ≡ some v → Fits words by v)
    → (by : ℕ) (v : GhostPlaces) → get_elem? (set views id w) by ≡ some v → Fits after by v
all_seen words after views id w mine others before by v e =
    ⊎_elim (λ (t : (by ≡ id) × (w ≡ v)). subst (λ (y : ℕ × GhostPlaces). Fits after y.0 y.1) (λ i. (sym t.0 i, t.1 i)) mine)
    (λ (t : (by ≢ id) × (get_elem? views by ≡ some v)). others by v t.0 (before by v t.1))
    (at_set views id by w v e)

-- ---- lists of places

all_vacant : {T : Type 0} → (n k : ℕ) → k < n → get_elem? (map {B = maybe.Option (Option T)} some (replicate n None)) k ≡ some (some None)
all_vacant zero k h = absurd (omega arith)
all_vacant (suc n) zero h = refl
all_vacant (suc n) (suc k) h = all_vacant n k (omega arith)

-- all places below k are taken, from the last one on
abbrev take_all : {T : Type 0} → ℕ → Act (Option T)
take_all zero = keeps
take_all (suc k) = chain (takes k None) (take_all k)

module _ {T : Type 0} where
  are_taken : (k : ℕ) (homes : List (maybe.Option (Option T))) (c : List (ℕ × Option T))
      → ((j : ℕ) → j < k → get_elem? homes j ≡ some (some None)) → Valid homes c (take_all k)
  are_taken zero homes c h = tt
  are_taken (suc k) homes c h = (
    h k (omega arith),
    are_taken k (set homes k none) ((k, None) ∷ c) (λ j less. set_else homes k j none (λ e. absurd (omega arith)) ∙ h j (omega arith)),
  )

  all_carried : (k m : ℕ) → carried_after (vacancies {T = T} k m) (take_all k) ≡ vacancies 0 (k + m)
  all_carried zero m = ap (vacancies {T = T} 0) (omega arith)
  all_carried (suc k) m = all_carried k (suc m) ∙ ap (vacancies {T = T} 0) (omega arith)

  pub next_vacancy : (k n : ℕ) → k < n → vacancies {T = T} k (n - k) ≡ (k, None) ∷ vacancies (k + 1) (n - (k + 1))
  next_vacancy k n less =
      let more : n - k ≡ suc (n - (k + 1)) = omega arith in
      let next : suc k ≡ k + 1 = omega arith in
      ap (vacancies {T = T} k) more ∙ ap (λ (i : ℕ). (k, None) ∷ vacancies i (n - (k + 1))) next

  more_vacancies : (k n : ℕ) → vacancies {T = T} k n ++ (k + n, None) ∷ [] ≡ vacancies k (n + 1)
  more_vacancies k zero = ap (λ (i : ℕ). (i, None) ∷ []) (omega arith)
  more_vacancies k (suc n) =
      let next : k + suc n ≡ suc k + n = omega arith in
      let more : suc (n + 1) ≡ suc n + 1 = omega arith in
      ap (λ (i : ℕ). (k, None) ∷ (vacancies {T = T} (suc k) n ++ (i, None) ∷ [])) next ∙ ap (λ (l : List (ℕ × Option T)). (k, None) ∷ l) (more_vacancies (suc k) n) ∙ ap (vacancies {T = T} k) more

  pub all_vacancies : (n : ℕ) → vacancies {T = T} 0 n ++ (n, None) ∷ [] ≡ vacancies 0 (n + 1)
  all_vacancies n =
      let same : n ≡ 0 + n = omega arith in
      ap (λ (i : ℕ). vacancies {T = T} 0 n ++ (i, None) ∷ []) same ∙ more_vacancies 0 n

  length_taken : (k : ℕ) (homes : List (maybe.Option (Option T))) (c : List (ℕ × Option T)) → length (homes_after homes c (take_all k)) ≡ length homes
  length_taken zero homes c = refl
  length_taken (suc k) homes c = length_taken k (set homes k none) ((k, None) ∷ c) ∙ length-set homes k none

-- ---- numbers

more_numbers : (a n : ℕ) → range_with_len a n ++ (a + n) ∷ [] ≡ range_with_len a (n + 1)
more_numbers a zero = ap (λ (i : ℕ). i ∷ []) (omega arith)
more_numbers a (suc n) =
    let next : a + suc n ≡ (a + 1) + n = omega arith in
    let more : suc (n + 1) ≡ suc n + 1 = omega arith in
    ap (λ (i : ℕ). a ∷ (range_with_len (a + 1) n ++ i ∷ [])) next ∙ ap (λ (l : List ℕ). a ∷ l) (more_numbers (a + 1) n) ∙ ap (range_with_len a) more

pub all_numbers : {T : Type 0} (number : T → ℕ) (values : List T) (x : T) (n : ℕ) → AreInOrder number n values → number x ≡ n → AreInOrder number (n + 1) (values ++ x ∷ [])
all_numbers number values x n before named =
    let same : number x ≡ 0 + n = omega (arith, named) in
    map-append number values (x ∷ []) ∙ ap (λ (l : List ℕ). l ++ number x ∷ []) before ∙ ap (λ (i : ℕ). range_with_len 0 n ++ i ∷ []) same ∙ more_numbers 0 n

pub no_numbers : {T : Type 0} (number : T → ℕ) (values : List T) → length values ≡ 0 → AreInOrder number 0 values
no_numbers number [] e = refl
no_numbers number (x ∷ values) e = absurd (omega arith)

-- ---- places that are held

module _ {T : Type 0} (number : T → ℕ) where
  -- the first of them
  pub record HoldsFirst (first count : ℕ) (taken : List (ℕ × Option T)) : Type 0 where
    pub value : T
    pub is : taken ≡ (first, Some value) ∷ rest taken
    pub named : number value ≡ first
    pub others : HoldsFrom number (first + 1) (count - 1) (rest taken)

  pub held_first : (first count : ℕ) (taken : List (ℕ × Option T)) → 0 < count → HoldsFrom number first count taken → HoldsFirst first count taken
  held_first first zero taken any h = absurd (omega arith)
  held_first first (suc count) [] any h = absurd h
  held_first first (suc count) (x ∷ taken) any h =
      let next : suc first ≡ first + 1 = omega arith in
      let less : count ≡ suc count - 1 = omega arith in
      record {
        value = h.0;
        is = ap (λ y. y ∷ taken) h.1;
        named = h.2;
        others = subst (λ n. HoldsFrom number (first + 1) n taken) less (subst (λ n. HoldsFrom number n count taken) next h.3);
      }

  -- one more before them
  pub held_more : (first from taken : ℕ) (value : T) (more all : List (ℕ × Option T)) → all ≡ (first, Some value) ∷ more → number value ≡ first → from ≡ first + 1 → HoldsFrom number from taken more → HoldsFrom number first (taken + 1) all
  held_more first from taken value more all is named next h =
      let after : from ≡ suc first = omega arith in
      let count : suc taken ≡ taken + 1 = omega arith in
      let whole : HoldsFrom number first (suc taken) ((first, Some value) ∷ more) = (value, refl, named, subst (λ n. HoldsFrom number n taken more) after h) in
      subst (λ n. HoldsFrom number first n all) count (subst (HoldsFrom number first (suc taken)) (sym is) whole)

-- ---- the rule

module _ {T : Type 0} (number : T → ℕ) where
  pub opens : (n : ℕ) → IsKept number (opening (first_words n) (replicate n None) Vacant)
  opens n = record {
    sized = omega (arith, length-replicate {A = ℕ} (16 * n + 15) 1, long);
    free = λ k less e. absurd (omega (arith, taken_at (word_of k) (16 * n + 15) (omega arith) (omega (arith, long)), e));
    vacant = λ e k less. all_vacant n k (omega (arith, long));
    seen = only;
  }
    where
      long : length (map {B = maybe.Option (Option T)} some (replicate {A = Option T} n None)) ≡ n
      long = length-map (replicate {A = Option T} n None) some ∙ length-replicate {A = Option T} n None

      only : (by : ℕ) (v : GhostPlaces) → get_elem? (Vacant ∷ []) by ≡ some v → Fits (first_words n) by v
      only zero v e = subst (Fits (first_words n) 0) (some-injective _ _ e) (refl, refl)
      only (suc by) v e = absurd (some-ne-none v (sym e))

  -- no value is at home while all places are vacant
  has_begun : (s : State (Option T) GhostPlaces) → IsKept number s → (k : ℕ) → k < length s.homes → get_or s.words (word_of k) 0 ≡ 0 → get_or s.words 0 0 ≢ 0
  has_begun s g k less free zeroed =
      let home = g.free k less free in
      let here : some (some (Some home.0)) ≡ some (some None) = sym home.1 ∙ g.vacant zeroed k less in
      absurd (cc)

  pub sits : (slots i : ℕ) (v : GhostPlaces) → Enters (IsKept number) slots i (λ n w. Sits {T = T} (step slots i 0 0 none) (v, []) n (w, []))
  sits slots i v s g homes bound = (
    Nothing,
    record {
      sized = g.sized;
      free = g.free;
      vacant = g.vacant;
      seen = λ by w e. ⊎_elim (λ was. g.seen by w was) (λ (t : Nothing ≡ w). subst (Fits s.words by) t tt) (at_snoc s.views Nothing w by e);
    },
    refl,
  )

  -- a word that isn't free becomes one that isn't, or nothing changes
  notes_word : (s : State (Option T) GhostPlaces) (id k n : ℕ) (v : GhostPlaces) → IsKept number s → k < length s.homes → get_elem? s.views id ≡ some v
      → (n ≡ 0 → get_or s.words (word_of k) 0 ≡ 0)
      → IsKept number (record { words = set s.words (word_of k) n; homes = s.homes; views = set s.views id v })
  notes_word s id k n v g less at same = record {
    sized = length-set s.words (word_of k) n ∙ g.sized;
    free = λ j there e. dite (ℕ_discrete j k)
        (λ (is : j ≡ k). subst (IsHome number s.homes) (sym is) (g.free k less (same (sym (get_or-set_same s.words (word_of k) n 0 (omega (arith, g.sized))) ∙ ap (λ i. get_or (set s.words (word_of k) n) (word_of i) 0) (sym is) ∙ e))))
        (λ (ne : j ≢ k). g.free j there (sym (get_or-set_other s.words (word_of k) (word_of j) n 0 (word_apart j k ne)) ∙ e));
    vacant = λ e. g.vacant (sym (get_or-set_other s.words (word_of k) 0 n 0 (not_first k)) ∙ e);
    seen = all_seen s.words (set s.words (word_of k) n) s.views id v (fits_set s.words k n id v (g.seen id v at)) (λ by u _ f. fits_set s.words k n by u f) g.seen;
  }

  -- a value goes out, and its word is no longer 0
  takes_word : (s : State (Option T) GhostPlaces) (id k n : ℕ) → IsKept number s → k < length s.homes → n ≢ 0 → get_or s.words (word_of k) 0 ≡ 0
      → IsKept number (record { words = set s.words (word_of k) n; homes = set s.homes k none; views = set s.views id Begun })
  takes_word s id k n g less taken free =
      let begun = has_begun s g k less free in record {
        sized = length-set s.words (word_of k) n ∙ g.sized ∙ ap word_of (sym (length-set s.homes k none));
        free = λ j there e. dite (ℕ_discrete j k)
            (λ (is : j ≡ k). absurd (taken (sym (get_or-set_same s.words (word_of k) n 0 (omega (arith, g.sized))) ∙ ap (λ i. get_or (set s.words (word_of k) n) (word_of i) 0) (sym is) ∙ e)))
            (λ (ne : j ≢ k).
            let home = g.free j (omega (arith, length-set s.homes k none)) (sym (get_or-set_other s.words (word_of k) (word_of j) n 0 (word_apart j k ne)) ∙ e) in
            (home.0, set_else s.homes k j none ne ∙ home.1, home.2));
        vacant = λ e. absurd (begun (sym (get_or-set_other s.words (word_of k) 0 n 0 (not_first k)) ∙ e));
        seen = all_seen s.words (set s.words (word_of k) n) s.views id Begun (fits_set s.words k n id Begun begun) (λ by u _ f. fits_set s.words k n by u f) g.seen;
      }

  -- a value comes home, and its word becomes 0
  gives_word : (s : State (Option T) GhostPlaces) (id k : ℕ) (x : T) → IsKept number s → k < length s.homes → get_elem? s.views id ≡ some Begun → number x ≡ k
      → IsKept number (record { words = set s.words (word_of k) 0; homes = set s.homes k (some (Some x)); views = set s.views id Begun })
  gives_word s id k x g less at named =
      let begun : get_or s.words 0 0 ≢ 0 = g.seen id Begun at in record {
        sized = length-set s.words (word_of k) 0 ∙ g.sized ∙ ap word_of (sym (length-set s.homes k (some (Some x))));
        free = λ j there e. dite (ℕ_discrete j k)
            (λ (is : j ≡ k). subst (IsHome number (set s.homes k (some (Some x)))) (sym is) (x, set_here s.homes k (some (Some x)) less, named))
            (λ (ne : j ≢ k).
            let home = g.free j (omega (arith, length-set s.homes k (some (Some x)))) (sym (get_or-set_other s.words (word_of k) (word_of j) 0 0 (word_apart j k ne)) ∙ e) in
            (home.0, set_else s.homes k j (some (Some x)) ne ∙ home.1, home.2));
        vacant = λ e. absurd (begun (sym (get_or-set_other s.words (word_of k) 0 0 0 (not_first k)) ∙ e));
        seen = all_seen s.words (set s.words (word_of k) 0) s.views id Begun (fits_set s.words k 0 id Begun begun) (λ by u _ f. fits_set s.words k 0 by u f) g.seen;
      }

  -- the same as the table asks it

  pub begins : (slots id a b : ℕ) (m : Me (Option T) GhostPlaces) → m ≡ (Vacant, []) → Allows (IsKept number) slots id m 0 (λ _. 1) (Begins (step slots 0 a b none) m)
  begins slots id a b m e = subst (λ (x : Me (Option T) GhostPlaces). Allows (IsKept number) slots id x 0 (λ _. 1) (Begins (step slots 0 a b none) x)) (sym e) all
    where
      all : Allows (IsKept number) slots id (Vacant, []) 0 (λ _. 1) (Begins {T = T} (step slots 0 a b none) (Vacant, []))
      all s g wide at bound =
          let mine : (id ≡ 0) × (get_or s.words 0 0 ≡ 0) = g.seen id Vacant at in
          let there : (j : ℕ) → j < slots → get_elem? s.homes j ≡ some (some None) = λ j less. g.vacant mine.1 j (omega arith) in
          let one : get_or (set s.words 0 1) 0 0 ≡ 1 = get_or-set_same s.words 0 1 0 (omega (arith, g.sized)) in
          let after = homes_after s.homes [] (take_all slots) in
          let long : length after ≡ length s.homes = length_taken slots s.homes [] in (
            Begun,
            take_all slots,
            are_taken slots s.homes [] there,
            record {
              sized = length-set s.words 0 1 ∙ g.sized ∙ ap word_of (sym long);
              free = λ k less e.
                  let old : get_or s.words (word_of k) 0 ≡ 0 = sym (get_or-set_other s.words 0 (word_of k) 1 0 (λ e. not_first k (sym e))) ∙ e in
                  absurd (has_begun s g k (omega arith) old mine.1);
              vacant = λ e. absurd (omega arith);
              seen = all_seen s.words (set s.words 0 1) s.views id Begun (λ e. absurd (omega arith)) others g.seen;
            },
            ap (λ c. (Begun, c)) (all_carried slots 0 ∙ ap (vacancies {T = T} 0) (omega arith)),
          )
        where
          others : (by : ℕ) (v : GhostPlaces) → by ≢ id → Fits s.words by v → Fits (set s.words 0 1) by v
          others by Nothing ne f = tt
          others by Vacant ne f = absurd (ne (f.0 ∙ sym (g.seen id Vacant at).0))
          others by Begun ne f = λ e. absurd (omega (arith, get_or-set_same s.words 0 1 0 (omega (arith, g.sized))))

  -- what the step that takes the lock owes, where it leaves its word at n
  Taken : State (Option T) GhostPlaces → (slots id k new : ℕ) → Me (Option T) GhostPlaces → ℕ → Type 0
  Taken s slots id k new m n = (w : GhostPlaces) × (a : Act (Option T)) × Valid s.homes m.1 a × IsKept number (stepped s (word_of k) n id m.1 w a)
      × Takes number (step slots (word_of k) 0 new none) m (get_or s.words (word_of k) 0) (w, carried_after m.1 a)

  hit : (s : State (Option T) GhostPlaces) (slots id k new : ℕ) (m : Me (Option T) GhostPlaces) → IsKept number s → k < length s.homes → new ≢ 0 → get_or s.words (word_of k) 0 ≡ 0 → Taken s slots id k new m new
  unfolding Taken
  hit s slots id k new m g less taken free =
      let home = g.free k less free in (
        Begun,
        takes k (Some home.0),
        home.1,
        takes_word s id k new g less taken free,
        (
          λ _ place same. let is : k ≡ place = omega arith in (home.0, ap (λ (i : ℕ). (Begun, (i, Some home.0) ∷ m.1)) is, home.2 ∙ is),
          λ busy. absurd (busy free),
        ),
      )

  miss : (s : State (Option T) GhostPlaces) (slots id k new : ℕ) (m : Me (Option T) GhostPlaces) → IsKept number s → k < length s.homes → get_elem? s.views id ≡ some m.0 → get_or s.words (word_of k) 0 ≢ 0 → Taken s slots id k new m (get_or s.words (word_of k) 0)
  unfolding Taken
  miss s slots id k new m g less at busy = (m.0, keeps, tt, notes_word s id k (get_or s.words (word_of k) 0) m.0 g less at (λ e. e), (λ free. absurd (busy free), λ _. refl))

  pub takes_place : (slots id k new : ℕ) (m : Me (Option T) GhostPlaces) → k < slots → new ≢ 0
      → Allows (IsKept number) slots id m (word_of k) (λ n. either (eqb n 0) new n) (Takes number (step slots (word_of k) 0 new none) m)
  unfolding Taken
  takes_place slots id k new m less taken s g wide at bound = exchanged (get_or s.words (word_of k) 0) 0 new (Taken s slots id k new m) (hit s slots id k new m g (omega arith) taken) (miss s slots id k new m g (omega arith) at)

  pub notes : (slots id k : ℕ) (m : Me (Option T) GhostPlaces) → k < slots
      → Allows (IsKept number) slots id m (word_of k) (λ n. either (eqb n 1) 2 n) (Stays (step slots (word_of k) 1 2 none) m)
  notes slots id k m less s g wide at bound = (m.0, keeps, tt, notes_word s id k (either (eqb (get_or s.words (word_of k) 0) 1) 2 (get_or s.words (word_of k) 0)) m.0 g (omega arith) at (exchanged (get_or s.words (word_of k) 0) 1 2 (λ n. n ≡ 0 → get_or s.words (word_of k) 0 ≡ 0) (λ _ e. absurd (omega arith)) (λ _ e. e)), refl)

  pub gives_place : (slots id k a b : ℕ) (x : T) (more : List (ℕ × Option T)) (m : Me (Option T) GhostPlaces) → k < slots → number x ≡ k → m ≡ (Begun, (k, Some x) ∷ more)
      → Allows (IsKept number) slots id m (word_of k) (λ _. 0) (Gives (step slots (word_of k) a b none) m)
  gives_place slots id k a b x more m less named e = subst (λ (y : Me (Option T) GhostPlaces). Allows (IsKept number) slots id y (word_of k) (λ _. 0) (Gives (step slots (word_of k) a b none) y)) (sym e) all
    where
      all : Allows (IsKept number) slots id (Begun, (k, Some x) ∷ more) (word_of k) (λ _. 0) (Gives (step slots (word_of k) a b none) (Begun, (k, Some x) ∷ more))
      all s g wide at bound = (Begun, gives, tt, gives_word s id k x g (omega arith) at named, refl)
