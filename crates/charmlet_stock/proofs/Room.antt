-- Values by kind, and room by kind.
use Rattle.std.proofs.Common.{ℕ, ◌≡◌, ◌⊎◌, inl, inr, ◌+◌, ◌-◌, ◌≤◌, ◌==◌, cond, Bool, true, false, true≢false, List, [], ◌∷◌, refl, sym, ap, subst, ◌∙◌, arith}
use Rattle.std.specs.Cmp.{nat_eq_equiv}
use Rattle.std.proofs.lemmas.List.Sums.{sum_by-append}
use Rattle.charmlet_model.specs.declared.kind.Kind.{Kind}
use Rattle.charmlet_model.specs.declared.kind.Kind.TheVariants as kinds
use Rattle.charmlet_model.specs.declared.state.State.{State}
use Rattle.charmlet_model.specs.Kind.{kind_number}
use Rattle.charmlet_model.specs.Reaction.{kind_of}
use Rattle.charmlet_model.specs.Shelves.{count_of}
use Rattle.charmlet_chare.specs.declared.chare.Chare.{Ghosts}
use Rattle.charmlet_stock.specs.declared.by_kind.ByKind.{ByKind}
use Rattle.charmlet_stock.specs.declared.pile.Pile.{Pile}
use Rattle.charmlet_stock.specs.declared.pile.Tally.{Tally}
use Rattle.charmlet_stock.specs.ByKind.{at, with_at}
use Rattle.charmlet_stock.specs.Pile.{HasRoomFor, supplied_more, with_out}
use Rattle.charmlet_stock.specs.Stock.{HasRoomForAll}

-- another value for one kind leaves those of the others
pub at_with : {T : Type 0} (values : ByKind T) (k : Kind) (x : T) (j : Kind) → ((j ≡ k) × (at (with_at values k x) j ≡ x)) ⊎ (((kind_number k == kind_number j) ≡ false) × (at (with_at values k x) j ≡ at values j))
at_with values kinds.Counter x kinds.Counter = inl (refl, refl)
at_with values kinds.Counter x kinds.Ring = inr (refl, refl)
at_with values kinds.Counter x kinds.Account = inr (refl, refl)
at_with values kinds.Counter x kinds.Sum = inr (refl, refl)
at_with values kinds.Counter x kinds.Tree = inr (refl, refl)
at_with values kinds.Counter x kinds.Tape = inr (refl, refl)
at_with values kinds.Ring x kinds.Counter = inr (refl, refl)
at_with values kinds.Ring x kinds.Ring = inl (refl, refl)
at_with values kinds.Ring x kinds.Account = inr (refl, refl)
at_with values kinds.Ring x kinds.Sum = inr (refl, refl)
at_with values kinds.Ring x kinds.Tree = inr (refl, refl)
at_with values kinds.Ring x kinds.Tape = inr (refl, refl)
at_with values kinds.Account x kinds.Counter = inr (refl, refl)
at_with values kinds.Account x kinds.Ring = inr (refl, refl)
at_with values kinds.Account x kinds.Account = inl (refl, refl)
at_with values kinds.Account x kinds.Sum = inr (refl, refl)
at_with values kinds.Account x kinds.Tree = inr (refl, refl)
at_with values kinds.Account x kinds.Tape = inr (refl, refl)
at_with values kinds.Sum x kinds.Counter = inr (refl, refl)
at_with values kinds.Sum x kinds.Ring = inr (refl, refl)
at_with values kinds.Sum x kinds.Account = inr (refl, refl)
at_with values kinds.Sum x kinds.Sum = inl (refl, refl)
at_with values kinds.Sum x kinds.Tree = inr (refl, refl)
at_with values kinds.Sum x kinds.Tape = inr (refl, refl)
at_with values kinds.Tree x kinds.Counter = inr (refl, refl)
at_with values kinds.Tree x kinds.Ring = inr (refl, refl)
at_with values kinds.Tree x kinds.Account = inr (refl, refl)
at_with values kinds.Tree x kinds.Sum = inr (refl, refl)
at_with values kinds.Tree x kinds.Tree = inl (refl, refl)
at_with values kinds.Tree x kinds.Tape = inr (refl, refl)
at_with values kinds.Tape x kinds.Counter = inr (refl, refl)
at_with values kinds.Tape x kinds.Ring = inr (refl, refl)
at_with values kinds.Tape x kinds.Account = inr (refl, refl)
at_with values kinds.Tape x kinds.Sum = inr (refl, refl)
at_with values kinds.Tape x kinds.Tree = inr (refl, refl)
at_with values kinds.Tape x kinds.Tape = inl (refl, refl)

-- the first object counts for its own kind
pub counts_first : {C : Type 0} (state : C → State) (object : C) (others : List C) (k : Kind) →
    count_of state (object ∷ others) k ≡ cond (kind_number (kind_of (state object)) == kind_number k) 1 0 + count_of state others k
counts_first state object others k =
    let split : count_of state (object ∷ others) k ≡ count_of state (object ∷ []) k + count_of state others k =
    sum_by-append (λ x. cond (kind_number (kind_of (state x)) == kind_number k) 1 0) (object ∷ []) others in
    let one : count_of state (object ∷ []) k ≡ 0 + cond (kind_number (kind_of (state object)) == kind_number k) 1 0 = refl in
    omega arith

once : (b : Bool) (n : ℕ) → b ≡ true → cond b 1 0 + n ≡ n + 1
once true n is = omega arith
once false n is = absurd (let never : ⊥ = cc in never)

pub counts_once : {C : Type 0} (state : C → State) (object : C) (others : List C) (k : Kind) → kind_of (state object) ≡ k → count_of state (object ∷ others) k ≡ count_of state others k + 1
counts_once state object others k is =
    counts_first state object others k ∙ once (kind_number (kind_of (state object)) == kind_number k) (count_of state others k)
    (subst (λ j. (kind_number (kind_of (state object)) == kind_number j) ≡ true) is (nat_eq_equiv.refl (kind_number (kind_of (state object)))))

-- and takes from none
pub counts_others : {C : Type 0} (state : C → State) (object : C) (others : List C) (k : Kind) → count_of state others k ≤ count_of state (object ∷ others) k
counts_others state object others k =
    let whole = counts_first state object others k in
    omega arith

pub less_room : {C : Type 0} {G : Ghosts C} (pile : Pile C G) (m n : ℕ) → m ≤ n → HasRoomFor pile n → HasRoomFor pile m
less_room pile m n le h = let first = h.0 in let second = h.1 in (omega arith, omega arith)

-- another pile for one kind leaves those of the others
pub others_stay : {T : Type 0} (values : ByKind T) (k : Kind) (x : T) (j : Kind) → (kind_number k == kind_number j) ≡ false → at (with_at values k x) j ≡ at values j
others_stay values k x j different =
    elim (at_with values k x j) [
      | inl same ↦ absurd (true≢false (sym (subst (λ i. (kind_number k == kind_number i) ≡ true) (sym same.0) (nat_eq_equiv.refl (kind_number k))) ∙ different))
      | inr other ↦ other.1
    ]

-- what holds of the kind that has changed, and of those that stay, holds of all
pub by_kind : {T : Type 0} (values next : ByKind T) (k : Kind) (x : T) → next ≡ with_at values k x → (P : Kind → T → Type 0) → P k x →
    ((j : Kind) → (kind_number k == kind_number j) ≡ false → P j (at values j)) → (j : Kind) → P j (at next j)
by_kind {T = T} values next k x is P own others j =
    subst (λ (v : ByKind T). P j (at v j)) (sym is)
    (elim (at_with values k x j) [
      | inl same ↦ subst (λ i. P i (at (with_at values k x) j)) (sym same.0) (subst (P k) (sym same.1) own)
      | inr other ↦ subst (P j) (sym other.1) (others j other.0)
    ])

-- the kind may be named in another way
pub own_room : {C : Type 0} {G : Ghosts C} (piles next : ByKind (Pile C G)) (j k : Kind) → j ≡ k → ((n : ℕ) → HasRoomFor (at piles k) (n + 1) → HasRoomFor (at next k) n) →
    (n : ℕ) → HasRoomFor (at piles j) (n + 1) → HasRoomFor (at next j) n
own_room piles next j k same own = subst (λ i. (n : ℕ) → HasRoomFor (at piles i) (n + 1) → HasRoomFor (at next i) n) (sym same) own

-- room for all is room for the first
pub room_for_first : {C : Type 0} {G : Ghosts C} (state : C → State) (piles : ByKind (Pile C G)) (object : C) (others : List C) →
    HasRoomForAll state piles (object ∷ others) → HasRoomFor (at piles (kind_of (state object))) 1
room_for_first state piles object others h =
    let k = kind_of (state object) in
    less_room (at piles k) _ _ (let whole = counts_once state object others k refl in omega arith) (h k)

-- the room that is left once the first object is taken in
pub room_left : {C : Type 0} {G : Ghosts C} (state : C → State) (piles next : ByKind (Pile C G)) (object : C) (others : List C) →
    ((n : ℕ) → HasRoomFor (at piles (kind_of (state object))) (n + 1) → HasRoomFor (at next (kind_of (state object))) n) →
    ((other : Kind) → (kind_number (kind_of (state object)) == kind_number other) ≡ false → at next other ≡ at piles other) →
    HasRoomForAll state piles (object ∷ others) → HasRoomForAll state next others
room_left {C = C} {G = G} state piles next object others own stay h j =
    let k = kind_of (state object) in
    elim (at_with piles k (at piles k) j) [
      | inl same ↦ subst (λ i. HasRoomFor (at next i) (count_of state others i)) (sym same.0)
          (own (count_of state others k) (subst (HasRoomFor (at piles k)) (counts_once state object others k refl) (h k)))
      | inr other ↦ subst (λ p. HasRoomFor p (count_of state others j)) (sym (stay j other.0)) (less_room (at piles j) _ _ (counts_others state object others j) (h j))
    ]

pub supplied_none : (t : Tally) → supplied_more t 0 ≡ t
supplied_none t = λ i. record { supplied = add_none t.supplied i; in_stock = add_none t.in_stock i; retired = t.retired }
  where
    add_none : (a : ℕ) → a + 0 ≡ a
    add_none a = omega arith

-- one object more of its kind was supplied, and the others are still to come
pub supplied_next : {C : Type 0} (state : C → State) (tallies : ByKind Tally) (object : C) (others : List C) (j : Kind) →
    supplied_more (at (with_at tallies (kind_of (state object)) (supplied_more (at tallies (kind_of (state object))) 1)) j) (count_of state others j) ≡ supplied_more (at tallies j) (count_of state (object ∷ others) j)
supplied_next state tallies object others j =
    let k = kind_of (state object) in
    let more = supplied_more (at tallies k) 1 in
    let whole = counts_first state object others j in
    elim (at_with tallies k more j) [
      | inl same ↦
          let here : at (with_at tallies k more) j ≡ supplied_more (at tallies j) 1 = same.1 ∙ ap (λ i. supplied_more (at tallies i) 1) (sym same.0) in
          let counted : count_of state (object ∷ others) j ≡ count_of state others j + 1 = counts_once state object others j (sym same.0) in
          ap (λ t. supplied_more t (count_of state others j)) here ∙ supplied_twice (at tallies j) (count_of state others j) ∙ ap (supplied_more (at tallies j)) (sym counted)
      | inr other ↦
          let counted : count_of state (object ∷ others) j ≡ count_of state others j = whole ∙ ap (λ (b : Bool). cond b 1 0 + count_of state others j) other.0 ∙ nothing_more (count_of state others j) in
          ap (λ t. supplied_more t (count_of state others j)) other.1 ∙ ap (supplied_more (at tallies j)) (sym counted)
    ]
  where
    supplied_twice : (t : Tally) (n : ℕ) → supplied_more (supplied_more t 1) n ≡ supplied_more t (n + 1)
    supplied_twice t n = λ i. record { supplied = add_once t.supplied n i; in_stock = add_once t.in_stock n i; retired = t.retired }
      where
        add_once : (a n : ℕ) → a + 1 + n ≡ a + (n + 1)
        add_once a n = omega arith

    nothing_more : (n : ℕ) → 0 + n ≡ n
    nothing_more n = omega arith

-- ---- the census of one kind, changed again and again

pub at_again : {T : Type 0} (values : ByKind T) (k : Kind) (x : T) → at (with_at values k x) k ≡ x
at_again values kinds.Counter x = refl
at_again values kinds.Ring x = refl
at_again values kinds.Account x = refl
at_again values kinds.Sum x = refl
at_again values kinds.Tree x = refl
at_again values kinds.Tape x = refl

pub with_again : {T : Type 0} (values : ByKind T) (k : Kind) (x y : T) → with_at (with_at values k x) k y ≡ with_at values k y
with_again values kinds.Counter x y = refl
with_again values kinds.Ring x y = refl
with_again values kinds.Account x y = refl
with_again values kinds.Sum x y = refl
with_again values kinds.Tree x y = refl
with_again values kinds.Tape x y = refl

pub with_same : {T : Type 0} (values : ByKind T) (k : Kind) → values ≡ with_at values k (at values k)
with_same values kinds.Counter = refl
with_same values kinds.Ring = refl
with_same values kinds.Account = refl
with_same values kinds.Sum = refl
with_same values kinds.Tree = refl
with_same values kinds.Tape = refl

-- one change more of a census that was changed for its kind
pub changed_again : (first now next : ByKind Tally) (k : Kind) (t u : Tally) → now ≡ with_at first k t → next ≡ with_at now k u → next ≡ with_at first k u
changed_again first now next k t u was is = is ∙ ap (λ (v : ByKind Tally). with_at v k u) was ∙ with_again first k t u

pub supplied_again : (t : Tally) (n : ℕ) → supplied_more (supplied_more t n) 1 ≡ supplied_more t (n + 1)
supplied_again t n = λ i. record { supplied = add_one t.supplied i; in_stock = add_one t.in_stock i; retired = t.retired }
  where
    add_one : (a : ℕ) → a + n + 1 ≡ a + (n + 1)
    add_one a = omega arith

pub out_again : (t : Tally) (n : ℕ) → with_out (with_out t n) 1 ≡ with_out t (n + 1)
out_again t n = λ i. record { supplied = t.supplied; in_stock = take_one t.in_stock i; retired = t.retired }
  where
    take_one : (a : ℕ) → a - n - 1 ≡ a - (n + 1)
    take_one a = omega arith

pub out_none : (t : Tally) → with_out t 0 ≡ t
out_none t = λ i. record { supplied = t.supplied; in_stock = take_none t.in_stock i; retired = t.retired }
  where
    take_none : (a : ℕ) → a - 0 ≡ a
    take_none a = omega arith

-- what holds for each of the six holds for all kinds
pub each_kind : (P : Kind → Type 0) → P kinds.Counter → P kinds.Ring → P kinds.Account → P kinds.Sum → P kinds.Tree → P kinds.Tape → (kind : Kind) → P kind
each_kind P a b c d e f kinds.Counter = a
each_kind P a b c d e f kinds.Ring = b
each_kind P a b c d e f kinds.Account = c
each_kind P a b c d e f kinds.Sum = d
each_kind P a b c d e f kinds.Tree = e
each_kind P a b c d e f kinds.Tape = f
