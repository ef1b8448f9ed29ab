-- What a write to one place of the lists leaves.
use Rattle.std.proofs.Common.{◌≡◌, ◌≢◌, ℕ, ◌+◌, ◌<◌, ◌≤◌, suc, List, [], ◌∷◌, ◌++◌, length, refl, sym, ap, subst, ◌∙◌, arith, slice_get, slice_set}
use Rattle.std.specs.Prelude.{Some}
use Rattle.charmlet_ready_queue.specs.declared.index.lists.Lists.{Lists}
use Rattle.charmlet_ready_queue.specs.declared.index.place.QueuePlace.{QueuePlace}
use Rattle.charmlet_ready_queue.specs.SeqNos.SeqNos.{AllBefore}
use Rattle.charmlet_ready_queue.specs.Index.Index.{IsBelow, IsIndexOf, IsOn, IsRoomy}

-- what stands at a place after the write: what was written, or what was there
pub at_place : {X : Type 0} (C : ℕ → X → Type 0) (xs : List X) (p : ℕ) (v : X) → C p v → ((r : ℕ) (x : X) → r ≢ p → slice_get xs r ≡ Some x → C r x) → (r : ℕ) (x : X) → slice_get (slice_set xs p v) r ≡ Some x → C r x
at_place C [] p v here others r x is = cc
at_place C (y ∷ ys) Prim.Native.Nat.zero v here others Prim.Native.Nat.zero x is = let same : v ≡ x = cc in subst (C 0) same here
at_place C (y ∷ ys) Prim.Native.Nat.zero v here others (suc r) x is = others (suc r) x (omega arith) is
at_place C (y ∷ ys) (suc p) v here others Prim.Native.Nat.zero x is = others 0 x (omega arith) is
at_place C (y ∷ ys) (suc p) v here others (suc r) x is = at_place (λ n. C (suc n)) ys p v here (λ n z apart at. others (suc n) z (omega (arith, apart)) at) r x is

pub length_set : {X : Type 0} (xs : List X) (p : ℕ) (v : X) → length (slice_set xs p v) ≡ length xs
length_set [] p v = refl
length_set (x ∷ xs) Prim.Native.Nat.zero v = refl
length_set (x ∷ xs) (suc p) v = ap suc (length_set xs p v)

-- ---- room is made

-- the sequence numbers stay, and there is no less room
pub record HasMore (old new : Lists) : Type 0 where
  pub ready : new.ready.seq_nos ≡ old.ready.seq_nos
  pub waiting : new.waiting.seq_nos ≡ old.waiting.seq_nos
  pub away : new.away ≡ old.away
  pub ready_capacity : old.ready.capacity ≤ new.ready.capacity
  pub waiting_capacity : old.waiting.capacity ≤ new.waiting.capacity

pub index_stays : (seq_nos : List ℕ) (place : ℕ → QueuePlace) (lists : List Lists) (on : ℕ) (old new : Lists) → slice_get lists on ≡ Some old → HasMore old new → IsIndexOf seq_nos place lists → IsIndexOf seq_nos place (slice_set lists on new)
index_stays seq_nos place lists on old new at more is =
    let was = is on old at in
    at_place (IsOn seq_nos place) lists on new
    (record { ready = more.ready ∙ was.ready; waiting = more.waiting ∙ was.waiting; away = more.away ∙ was.away })
    (λ r l apart there. is r l there)

pub more_room : (k : ℕ) (old new : Lists) → HasMore old new → IsRoomy k old → IsRoomy k new
more_room k old new more r =
    let ready = ap length more.ready in
    let waiting = ap length more.waiting in
    record {
      ready = sum (length new.ready.seq_nos) (length new.waiting.seq_nos) new.away (length old.ready.seq_nos) (length old.waiting.seq_nos) old.away old.ready.capacity new.ready.capacity ready waiting more.away more.ready_capacity r.ready;
      waiting = sum (length new.ready.seq_nos) (length new.waiting.seq_nos) new.away (length old.ready.seq_nos) (length old.waiting.seq_nos) old.away old.waiting.capacity new.waiting.capacity ready waiting more.away more.waiting_capacity r.waiting;
    }
  where
    sum : (a b c x y z s t : ℕ) → a ≡ x → b ≡ y → c ≡ z → s ≤ t → x + y + z + k ≤ s → a + b + c + k ≤ t
    sum a b c x y z s t h i j l m = omega arith

pub room_stays : (k : ℕ) (lists : List Lists) (on : ℕ) (old new : Lists) → slice_get lists on ≡ Some old → HasMore old new → ((p : ℕ) (l : Lists) → slice_get lists p ≡ Some l → IsRoomy k l) → (p : ℕ) (l : Lists) → slice_get (slice_set lists on new) p ≡ Some l → IsRoomy k l
room_stays k lists on old new at more is = at_place (λ p l. IsRoomy k l) lists on new (more_room k old new more (is on old at)) (λ r l apart there. is r l there)

pub below_stays : (n : ℕ) (lists : List Lists) (on : ℕ) (old new : Lists) → slice_get lists on ≡ Some old → HasMore old new → ((p : ℕ) (l : Lists) → slice_get lists p ≡ Some l → IsBelow n l) → (p : ℕ) (l : Lists) → slice_get (slice_set lists on new) p ≡ Some l → IsBelow n l
below_stays n lists on old new at more is =
    let was = is on old at in
    at_place (λ p l. IsBelow n l) lists on new
    (record { ready = subst (AllBefore n) (sym more.ready) was.ready; waiting = subst (AllBefore n) (sym more.waiting) was.waiting })
    (λ r l apart there. is r l there)

-- and each of those so far has the room
pub wanted_more : (k : ℕ) (lists : List Lists) (on : ℕ) (new : Lists) → IsRoomy k new → ((p : ℕ) (l : Lists) → p < on → slice_get lists p ≡ Some l → IsRoomy k l) → (p : ℕ) (l : Lists) → p < on + 1 → slice_get (slice_set lists on new) p ≡ Some l → IsRoomy k l
wanted_more k lists on new has is p l within there =
    at_place (λ r m. r < on + 1 → IsRoomy k m) lists on new (λ _. has) (λ r m apart at less. is r m (omega (arith, apart, less)) at) p l there within

-- ---- one more

pub at_end : {X : Type 0} (C : ℕ → X → Type 0) (xs : List X) (v : X) → C (length xs) v → ((r : ℕ) (x : X) → slice_get xs r ≡ Some x → C r x) → (r : ℕ) (x : X) → slice_get (xs ++ v ∷ []) r ≡ Some x → C r x
at_end C [] v here others Prim.Native.Nat.zero x is = let same : v ≡ x = cc in subst (C 0) same here
at_end C [] v here others (suc r) x is = cc
at_end C (y ∷ ys) v here others Prim.Native.Nat.zero x is = others 0 x is
at_end C (y ∷ ys) v here others (suc r) x is = at_end (λ n. C (suc n)) ys v here (λ n z at. others (suc n) z at) r x is

pub below_none : (l : Lists) → l.ready.seq_nos ≡ [] → l.waiting.seq_nos ≡ [] → IsBelow 0 l
below_none l ready waiting = record { ready = subst (AllBefore 0) (sym ready) tt; waiting = subst (AllBefore 0) (sym waiting) tt }
