-- The first one of a kind.
use Rattle.std.proofs.Common.{◌≡◌, ℕ, ◌+◌, ◌<◌, Bool, true, false, ◌&&◌, ◌||◌, List, [], ◌∷◌, length, filter, refl, sym, subst, arith, if◌then◌else◌, slice_get}
use Rattle.std.specs.Prelude.{Option, Some, None, IfSome, is_none, ◌==◌, nat_lt}
use Rattle.std.specs.List.{AllByRecursion}
use Rattle.charmlet_ready_queue.specs.SeqNos.SeqNos.{AllAfter, Climbs}
use Rattle.charmlet_ready_queue.specs.declared.index.place.QueuePlace.{QueuePlace}
use Rattle.charmlet_ready_queue.specs.Index.Index.{earlier, first_of, is_ready_on}

pub first_is : (p : ℕ → Bool) (bs : List ℕ) → first_of p bs ≡ slice_get (filter p bs) 0
first_is p [] = refl
first_is p (b ∷ bs) =
    elim (p b) as (λ t. (if t then Some b else first_of p bs) ≡ slice_get (if t then b ∷ filter p bs else filter p bs) 0) [
      | true ↦ refl
      | false ↦ first_is p bs
    ]

pub first_has : (p : ℕ → Bool) (bs : List ℕ) (b : ℕ) → first_of p bs ≡ Some b → p b ≡ true
first_has p [] b is = cc
first_has p (c ∷ cs) b is =
    elim (p c) as (λ t. p c ≡ t → (if t then Some c else first_of p cs) ≡ Some b → p b ≡ true) [
      | true ↦ λ here k. let same : c ≡ b = cc in subst (λ d. p d ≡ true) same here
      | false ↦ λ _ k. first_has p cs b k
    ] refl is

pub first_same : (p q : ℕ → Bool) (bs : List ℕ) → AllByRecursion (λ b. p b ≡ q b) bs → first_of p bs ≡ first_of q bs
first_same p q [] h = refl
first_same p q (b ∷ bs) h = rw h.0 (rw (first_same p q bs h.1) refl)

-- the first one is after what all are after
pub first_after : (n : ℕ) (p : ℕ → Bool) (bs : List ℕ) → AllAfter n bs → IfSome (first_of p bs) (λ b. n < b)
first_after n p [] h = tt
first_after n p (b ∷ bs) h =
    elim (p b) as (λ t. IfSome (if t then Some b else first_of p bs) (λ c. n < c)) [
      | true ↦ h.0
      | false ↦ first_after n p bs h.1
    ]

earlier_first : (b : ℕ) (o : Option ℕ) → IfSome o (λ c. b < c) → earlier (Some b) o ≡ Some b
earlier_first b None h = refl
earlier_first b (Some c) h = let later : nat_lt c b ≡ false = not_before b c h in rw later refl
  where
    not_before : (b c : ℕ) → b < c → nat_lt c b ≡ false
    not_before b c h = grind arith

earlier_last : (b : ℕ) (o : Option ℕ) → IfSome o (λ c. b < c) → earlier o (Some b) ≡ Some b
earlier_last b None h = refl
earlier_last b (Some c) h = let before : nat_lt b c ≡ true = is_before b c h in rw before refl
  where
    is_before : (b c : ℕ) → b < c → nat_lt b c ≡ true
    is_before b c h = grind arith

earlier_itself : (b : ℕ) → earlier (Some b) (Some b) ≡ Some b
earlier_itself b = go (nat_lt b b)
  where
    go : (t : Bool) → (if t then Some b else Some b) ≡ Some b
    go true = refl
    go false = refl

-- the first one of either kind is the earlier of the first ones of each
pub first_either : (p q w : ℕ → Bool) → ((b : ℕ) → w b ≡ (p b || q b)) → (bs : List ℕ) → Climbs bs → first_of w bs ≡ earlier (first_of p bs) (first_of q bs)
first_either p q w is [] r = refl
first_either p q w is (b ∷ bs) r =
    let more = first_either p q w is bs r.1 in
    let after_p = first_after b p bs r.0 in
    let after_q = first_after b q bs r.0 in
    rw (is b) (elim (p b) as (λ t. (if t || q b then Some b else first_of w bs) ≡ earlier (if t then Some b else first_of p bs) (if q b then Some b else first_of q bs)) [
      | true ↦ elim (q b) as (λ u. Some b ≡ earlier (Some b) (if u then Some b else first_of q bs)) [
        | true ↦ sym (earlier_itself b)
        | false ↦ sym (earlier_first b (first_of q bs) after_q)
      ]
      | false ↦ elim (q b) as (λ u. (if u then Some b else first_of w bs) ≡ earlier (first_of p bs) (if u then Some b else first_of q bs)) [
        | true ↦ sym (earlier_last b (first_of p bs) after_p)
        | false ↦ more
      ]
    ])

-- ready on a processor before this one
abbrev pub is_below : (ℕ → QueuePlace) → ℕ → ℕ → Bool
is_below place k n = nat_lt (place n).on k && (place n).is_ready

pub none_below : (place : ℕ → QueuePlace) (bs : List ℕ) → None ≡ first_of (is_below place 0) bs
none_below place [] = refl
none_below place (b ∷ bs) = let never : nat_lt (place b).on 0 ≡ false = none (place b).on in rw never (none_below place bs)
  where
    none : (n : ℕ) → nat_lt n 0 ≡ false
    none n = grind arith

pub one_more_below : (place : ℕ → QueuePlace) (k b : ℕ) → is_below place (k + 1) b ≡ (is_below place k b || is_ready_on (place b) k)
one_more_below place k b = rw (more (place b).on k) (spread (nat_lt (place b).on k) ((place b).on == k) (place b).is_ready)
  where
    more : (n k : ℕ) → nat_lt n (k + 1) ≡ (nat_lt n k || (n == k))
    more n k = grind arith

    spread : (s t u : Bool) → ((s || t) && u) ≡ ((s && u) || (t && u))
    spread true true true = refl
    spread true true false = refl
    spread true false true = refl
    spread true false false = refl
    spread false t u = refl

pub on_this : (place : ℕ → QueuePlace) (k : ℕ) (o : Option ℕ) (bs : List ℕ) → o ≡ first_of (λ n. is_ready_on (place n) k) bs → IfSome o (λ b. (place b).on ≡ k)
on_this place k None bs is = tt
on_this place k (Some b) bs is = let has = first_has (λ n. is_ready_on (place n) k) bs b (sym is) in here (place b).on (place b).is_ready has
  where
    here : (n : ℕ) (t : Bool) → ((n == k) && t) ≡ true → n ≡ k
    here n t h = grind arith

pub all_below : (place : ℕ → QueuePlace) (n : ℕ) (bs : List ℕ) → AllByRecursion (λ b. (place b).on < n) bs → first_of (is_below place n) bs ≡ first_of (λ b. (place b).is_ready) bs
all_below place n bs h = first_same (is_below place n) (λ b. (place b).is_ready) bs (each bs h)
  where
    below : (m n : ℕ) (t : Bool) → m < n → (nat_lt m n && t) ≡ t
    below m n t h = let is : nat_lt m n ≡ true = grind arith in rw is refl

    each : (cs : List ℕ) → AllByRecursion (λ b. (place b).on < n) cs → AllByRecursion (λ b. is_below place n b ≡ (place b).is_ready) cs
    each [] h = tt
    each (c ∷ cs) h = (below (place c).on n (place c).is_ready h.0, each cs h.1)

pub none_first : (bs : List ℕ) → length bs ≡ 0 → None ≡ slice_get bs 0
none_first [] h = refl
none_first (b ∷ bs) h = grind arith

pub none_kept : (p : ℕ → Bool) (bs : List ℕ) → length (filter p bs) ≡ 0 → first_of p bs ≡ None
none_kept p [] h = refl
none_kept p (b ∷ bs) h =
    elim (p b) as (λ t. length (if t then b ∷ filter p bs else filter p bs) ≡ 0 → (if t then Some b else first_of p bs) ≡ None) [
      | true ↦ λ k. grind arith
      | false ↦ λ k. none_kept p bs k
    ] h

never : (t : Bool) → (t && false) ≡ false
never true = refl
never false = refl

-- one that is ready on a processor is ready
pub some_ready : (place : ℕ → QueuePlace) (k : ℕ) (bs : List ℕ) → 0 < length (filter (λ n. is_ready_on (place n) k) bs) → false ≡ is_none (first_of (λ n. (place n).is_ready) bs)
some_ready place k [] h = grind arith
some_ready place k (b ∷ bs) h = by (λ i. some_ready place k bs i) (place b).is_ready refl
  where
    by : (0 < length (filter (λ n. is_ready_on (place n) k) bs) → false ≡ is_none (first_of (λ n. (place n).is_ready) bs)) → (t : Bool) → (place b).is_ready ≡ t → false ≡ is_none (if t then Some b else first_of (λ n. (place n).is_ready) bs)
    by more true e = refl
    by more false e =
        let not_here : is_ready_on (place b) k ≡ false = rw e (never ((place b).on == k)) in
        more (rw not_here at h)

-- where none is of one kind, and none of another, none is of either
pub first_neither : (p q w : ℕ → Bool) → ((b : ℕ) → w b ≡ (p b || q b)) → (bs : List ℕ) → first_of p bs ≡ None → first_of q bs ≡ None → first_of w bs ≡ None
first_neither p q w is [] h k = refl
first_neither p q w is (b ∷ bs) h k = rw (is b) (by (λ i j. first_neither p q w is bs i j) (p b) (q b) h k)
  where
    by : (first_of p bs ≡ None → first_of q bs ≡ None → first_of w bs ≡ None) → (s t : Bool) → (if s then Some b else first_of p bs) ≡ None → (if t then Some b else first_of q bs) ≡ None → (if s || t then Some b else first_of w bs) ≡ None
    by more true t h k = cc
    by more false true h k = cc
    by more false false h k = more h k
