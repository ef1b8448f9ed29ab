-- What one sequence number that leaves or comes makes of the lists of a processor.
use Rattle.std.proofs.Common.{◌≡◌, ◌≢◌, ℕ, ◌+◌, ◌<◌, ◌≤◌, Bool, true, false, not, ◌&&◌, ◌||◌, List, [], ◌∷◌, suc, length, filter, refl, sym, ap, subst, ◌∙◌, arith, slice_get, if◌then◌else◌}
use Rattle.std.specs.Prelude.{◌==◌, Option, Some, None, IfSome}
use Rattle.charmlet_ready_queue.specs.SeqNos.SeqNos.{AllBefore, Climbs, with_number, without_number}
use Rattle.charmlet_ready_queue.proofs.SeqNosLemmas.Rising.{all_filter, all_with, climbs_filter}
use Rattle.charmlet_ready_queue.specs.declared.index.lists.Lists.{Lists}
use Rattle.charmlet_ready_queue.specs.declared.index.place.QueuePlace.{QueuePlace}
use Rattle.charmlet_ready_queue.specs.Index.Index.{HasRoomFor, IsBelow, IsHeld, IsIndexOf, IsOn, IsRoomy, IsWith, IsWithout, OnEach, holds, is_away_from, is_ready_on, is_waiting_on, load, moved, touches}
use Rattle.charmlet_ready_queue.proofs.IndexLemmas.Numbers.{bit, count_with, count_without, held_has, kind_with, kind_without, length_with, none_without, some_filter, some_held, with_without}

cancel : (a b k c : ℕ) → a + k ≡ c → b + k ≡ c → a ≡ b
cancel a b k c h i = omega arith

-- ---- one leaves

pub without_on : (seq_nos : List ℕ) (place : ℕ → QueuePlace) (n p : ℕ) (old new : Lists) → Climbs seq_nos → holds n seq_nos ≡ true → IsOn seq_nos place p old → IsWithout n (place n) p old new → IsOn (without_number n seq_nos) place p new
without_on seq_nos place n p old new c h o w = record {
  ready = w.ready ∙ (ap (λ ys. if is_ready_on (place n) p then without_number n ys else ys) o.ready ∙ sym (kind_without (λ m. is_ready_on (place m) p) n seq_nos));
  waiting = w.waiting ∙ (ap (λ ys. if is_waiting_on (place n) p then without_number n ys else ys) o.waiting ∙ sym (kind_without (λ m. is_waiting_on (place m) p) n seq_nos));
  away = cancel new.away (length (filter (λ m. is_away_from (place m) p) (without_number n seq_nos))) (bit (is_away_from (place n) p)) old.away w.away (count_without (λ m. is_away_from (place m) p) n seq_nos c h ∙ sym o.away);
}

pub without_index : (seq_nos : List ℕ) (place : ℕ → QueuePlace) (n : ℕ) (at : QueuePlace) (olds news : List Lists) → Climbs seq_nos → holds n seq_nos ≡ true → place n ≡ at → IsIndexOf seq_nos place olds → OnEach (IsWithout n at) olds news → IsIndexOf (without_number n seq_nos) place news
without_index seq_nos place n at olds news c h here is each p new there =
    let one = each p new there in
    without_on seq_nos place n p one.0 new c h (is p one.0 one.1) (subst (λ (a : QueuePlace). IsWithout n a p one.0 new) (sym here) one.2)

-- ---- one comes

same_number : (n : ℕ) → (n == n) ≡ true
same_number n = grind arith

pub with_on : (seq_nos : List ℕ) (place : ℕ → QueuePlace) (n : ℕ) (at : QueuePlace) (p : ℕ) (old new : Lists) → Climbs seq_nos → holds n seq_nos ≡ false → IsOn seq_nos place p old → IsWith n at p old new → IsOn (with_number n seq_nos) (moved n at place) p new
with_on seq_nos place n at p old new c none o w =
    let here : moved n at place n ≡ at = rw (same_number n) refl in
    record {
      ready = w.ready ∙ (ap (λ ys. if is_ready_on at p then with_number n ys else ys) o.ready ∙ sym (subst (λ (a : QueuePlace). filter (λ m. is_ready_on (moved n at place m) p) (with_number n seq_nos) ≡ (if is_ready_on a p then with_number n (filter (λ m. is_ready_on (place m) p) seq_nos) else filter (λ m. is_ready_on (place m) p) seq_nos)) here (kind_with (λ m. is_ready_on (place m) p) (λ m. is_ready_on (moved n at place m) p) n (λ m e. rw e refl) seq_nos c none)));
      waiting = w.waiting ∙ (ap (λ ys. if is_waiting_on at p then with_number n ys else ys) o.waiting ∙ sym (subst (λ (a : QueuePlace). filter (λ m. is_waiting_on (moved n at place m) p) (with_number n seq_nos) ≡ (if is_waiting_on a p then with_number n (filter (λ m. is_waiting_on (place m) p) seq_nos) else filter (λ m. is_waiting_on (place m) p) seq_nos)) here (kind_with (λ m. is_waiting_on (place m) p) (λ m. is_waiting_on (moved n at place m) p) n (λ m e. rw e refl) seq_nos c none)));
      away = w.away ∙ (ap (λ k. k + bit (is_away_from at p)) o.away ∙ sym (subst (λ (a : QueuePlace). length (filter (λ m. is_away_from (moved n at place m) p) (with_number n seq_nos)) ≡ length (filter (λ m. is_away_from (place m) p) seq_nos) + bit (is_away_from a p)) here (count_with (λ m. is_away_from (place m) p) (λ m. is_away_from (moved n at place m) p) n (λ m e. rw e refl) seq_nos c none)));
    }

pub with_index : (seq_nos : List ℕ) (place : ℕ → QueuePlace) (n : ℕ) (at : QueuePlace) (olds news : List Lists) → Climbs seq_nos → holds n seq_nos ≡ false → IsIndexOf seq_nos place olds → OnEach (IsWith n at) olds news → IsIndexOf (with_number n seq_nos) (moved n at place) news
with_index seq_nos place n at olds news c none is each p new there =
    let one = each p new there in
    with_on seq_nos place n at p one.0 new c none (is p one.0 one.1) one.2

-- one leaves, and comes elsewhere
pub shifted_index : (seq_nos : List ℕ) (place : ℕ → QueuePlace) (n : ℕ) (from into : QueuePlace) (olds mids news : List Lists) → Climbs seq_nos → holds n seq_nos ≡ true → place n ≡ from → IsIndexOf seq_nos place olds → OnEach (IsWithout n from) olds mids → OnEach (IsWith n into) mids news → IsIndexOf seq_nos (moved n into place) news
shifted_index seq_nos place n from into olds mids news c h here is first second =
    subst (λ bs. IsIndexOf bs (moved n into place) news) (with_without n seq_nos c h)
    (with_index (without_number n seq_nos) place n into mids news (climbs_filter _ seq_nos c) (none_without n seq_nos) (without_index seq_nos place n from olds mids c h here is first) second)

-- ---- room

one_of : (t s u : Bool) → bit (t && s) + bit (t && not s) + bit (u && not t) ≡ bit (t || u)
one_of true true true = refl
one_of true true false = refl
one_of true false true = refl
one_of true false false = refl
one_of false s true = refl
one_of false s false = refl

pub load_without : (seq_nos : List ℕ) (place : ℕ → QueuePlace) (n p : ℕ) (old new : Lists) → Climbs seq_nos → holds n seq_nos ≡ true → IsOn seq_nos place p old → IsWithout n (place n) p old new → load new + bit (touches (place n) p) ≡ load old
load_without seq_nos place n p old new c h o w =
    let after = without_on seq_nos place n p old new c h o w in
    let ready : length new.ready.seq_nos + bit (is_ready_on (place n) p) ≡ length old.ready.seq_nos = rw after.ready (rw o.ready (count_without (λ m. is_ready_on (place m) p) n seq_nos c h)) in
    let waiting : length new.waiting.seq_nos + bit (is_waiting_on (place n) p) ≡ length old.waiting.seq_nos = rw after.waiting (rw o.waiting (count_without (λ m. is_waiting_on (place m) p) n seq_nos c h)) in
    let all = one_of ((place n).on == p) (place n).is_ready ((place n).home == p) in
    sum (length new.ready.seq_nos) (length new.waiting.seq_nos) new.away (bit (is_ready_on (place n) p)) (bit (is_waiting_on (place n) p)) (bit (is_away_from (place n) p)) (bit (touches (place n) p)) (length old.ready.seq_nos) (length old.waiting.seq_nos) old.away ready waiting w.away all
  where
    sum : (a b c r w v t x y z : ℕ) → a + r ≡ x → b + w ≡ y → c + v ≡ z → r + w + v ≡ t → a + b + c + t ≡ x + y + z
    sum a b c r w v t x y z h i j k = omega arith

pub load_with : (n : ℕ) (at : QueuePlace) (p : ℕ) (old new : Lists) → IsWith n at p old new → load new ≤ load old + bit (touches at p)
load_with n at p old new w =
    let ready : length new.ready.seq_nos ≤ length old.ready.seq_nos + bit (is_ready_on at p) = subst (λ ys. length ys ≤ length old.ready.seq_nos + bit (is_ready_on at p)) (sym w.ready) (more (is_ready_on at p) old.ready.seq_nos) in
    let waiting : length new.waiting.seq_nos ≤ length old.waiting.seq_nos + bit (is_waiting_on at p) = subst (λ ys. length ys ≤ length old.waiting.seq_nos + bit (is_waiting_on at p)) (sym w.waiting) (more (is_waiting_on at p) old.waiting.seq_nos) in
    let all = one_of (at.on == p) at.is_ready (at.home == p) in
    sum (length new.ready.seq_nos) (length new.waiting.seq_nos) new.away (bit (is_ready_on at p)) (bit (is_waiting_on at p)) (bit (is_away_from at p)) (bit (touches at p)) (length old.ready.seq_nos) (length old.waiting.seq_nos) old.away ready waiting w.away all
  where
    more : (t : Bool) (xs : List ℕ) → length (if t then with_number n xs else xs) ≤ length xs + bit t
    more true xs = length_with n xs
    more false xs = omega arith

    sum : (a b c r w v t x y z : ℕ) → a ≤ x + r → b ≤ y + w → c ≡ z + v → r + w + v ≡ t → a + b + c ≤ x + y + z + t
    sum a b c r w v t x y z h i j k = omega arith

pub roomy_without : (seq_nos : List ℕ) (place : ℕ → QueuePlace) (n : ℕ) (at : QueuePlace) (p : ℕ) (old new : Lists) (k : ℕ) → Climbs seq_nos → holds n seq_nos ≡ true → place n ≡ at → IsOn seq_nos place p old → IsWithout n at p old new → IsRoomy k old → IsRoomy (k + bit (touches at p)) new
roomy_without seq_nos place n at p old new k c h here o w r =
    let less : load new + bit (touches at p) ≡ load old = subst (λ (a : QueuePlace). load new + bit (touches a p) ≡ load old) here (load_without seq_nos place n p old new c h o (subst (λ (a : QueuePlace). IsWithout n a p old new) (sym here) w)) in
    record {
      ready = sum (load new) (bit (touches at p)) (load old) k old.ready.capacity new.ready.capacity less w.ready_capacity r.ready;
      waiting = sum (load new) (bit (touches at p)) (load old) k old.waiting.capacity new.waiting.capacity less w.waiting_capacity r.waiting;
    }
  where
    sum : (a t b k x y : ℕ) → a + t ≡ b → y ≡ x → b + k ≤ x → a + (k + t) ≤ y
    sum a t b k x y h i j = omega arith

pub roomy_with : (n : ℕ) (at : QueuePlace) (p : ℕ) (old new : Lists) (k : ℕ) → IsWith n at p old new → IsRoomy (k + bit (touches at p)) old → IsRoomy k new
roomy_with n at p old new k w r =
    let more = load_with n at p old new w in
    record {
      ready = sum (load new) (bit (touches at p)) (load old) k old.ready.capacity new.ready.capacity more w.ready_capacity r.ready;
      waiting = sum (load new) (bit (touches at p)) (load old) k old.waiting.capacity new.waiting.capacity more w.waiting_capacity r.waiting;
    }
  where
    sum : (a t b k x y : ℕ) → a ≤ b + t → y ≡ x → b + (k + t) ≤ x → a + k ≤ y
    sum a t b k x y h i j = omega arith

pub less_room : (j k : ℕ) (l : Lists) → j ≤ k → IsRoomy k l → IsRoomy j l
less_room j k l h r = record { ready = omega (arith, h, r.ready); waiting = omega (arith, h, r.waiting) }

pub bit_small : (t : Bool) → bit t ≤ 1
bit_small true = omega arith
bit_small false = omega arith

-- ---- numbers

pub below_without : (n m : ℕ) (at : QueuePlace) (p : ℕ) (old new : Lists) → IsWithout m at p old new → IsBelow n old → IsBelow n new
below_without n m at p old new w b = record {
  ready = subst (AllBefore n) (sym w.ready) (by (is_ready_on at p) old.ready.seq_nos b.ready);
  waiting = subst (AllBefore n) (sym w.waiting) (by (is_waiting_on at p) old.waiting.seq_nos b.waiting);
}
  where
    by : (t : Bool) (xs : List ℕ) → AllBefore n xs → AllBefore n (if t then without_number m xs else xs)
    by true xs h = all_filter (λ k. k < n) _ xs h
    by false xs h = h

pub below_with : (n m : ℕ) (at : QueuePlace) (p : ℕ) (old new : Lists) → m < n → IsWith m at p old new → IsBelow n old → IsBelow n new
below_with n m at p old new lt w b = record {
  ready = subst (AllBefore n) (sym w.ready) (by (is_ready_on at p) old.ready.seq_nos b.ready);
  waiting = subst (AllBefore n) (sym w.waiting) (by (is_waiting_on at p) old.waiting.seq_nos b.waiting);
}
  where
    by : (t : Bool) (xs : List ℕ) → AllBefore n xs → AllBefore n (if t then with_number m xs else xs)
    by true xs h = all_with (λ k. k < n) xs m h lt
    by false xs h = h

-- ---- what is held

-- a sequence number that is away is counted at its home
pub counted_away : (n : ℕ) (at : QueuePlace) (lists : List Lists) → IsHeld n at lists → at.on ≢ at.home → (l : Lists) → slice_get lists at.home ≡ Some l → 0 < l.away
counted_away n at lists held apart l there =
    let place = held.1 in
    let away = (held.2 at.home l there).away in
    let other : (at.on == at.home) ≡ false = unlike at.on at.home apart in
    let is_away : is_away_from at at.home ≡ true = rw (same_number at.home) (rw other refl) in
    let kind : is_away_from (place n) at.home ≡ true = subst (λ (a : QueuePlace). is_away_from a at.home ≡ true) (sym held.5) is_away in
    let some = some_held n _ (some_filter (λ m. is_away_from (place m) at.home) n held.0 kind held.4) in
    omega (arith, away, some)
  where
    unlike : (a b : ℕ) → a ≢ b → (a == b) ≡ false
    unlike a b h = grind arith

pub some_at : (lists : List Lists) (p : ℕ) → p < length lists → (l : Lists) × (slice_get lists p ≡ Some l)
some_at [] p h = grind arith
some_at (l ∷ lists) Prim.Native.Nat.zero h = (l, refl)
some_at (l ∷ lists) (suc p) h = some_at lists p (omega (arith, h))

-- a sequence number that is there is before the next one
pub held_below : (n next : ℕ) (at : QueuePlace) (lists : List Lists) → IsHeld n at lists → at.on < length lists → ((p : ℕ) (l : Lists) → slice_get lists p ≡ Some l → IsBelow next l) → n < next
held_below n next at lists held within below =
    let place = held.1 in
    let found = some_at lists at.on within in
    let own = below at.on found.0 found.1 in
    let on = held.2 at.on found.0 found.1 in
    by place held.0 held.4 held.5 found.0 own on at.is_ready refl
  where
    by : (place : ℕ → QueuePlace) (seq_nos : List ℕ) → holds n seq_nos ≡ true → place n ≡ at → (l : Lists) → IsBelow next l → IsOn seq_nos place at.on l → (t : Bool) → at.is_ready ≡ t → n < next
    by place seq_nos there here l own on true e =
        let kind : is_ready_on (place n) at.on ≡ true = subst (λ (a : QueuePlace). is_ready_on a at.on ≡ true) (sym here) (rw (same_number at.on) e) in
        held_has (λ m. m < next) n l.ready.seq_nos own.ready (subst (λ xs. holds n xs ≡ true) (sym on.ready) (some_filter (λ m. is_ready_on (place m) at.on) n seq_nos kind there))
    by place seq_nos there here l own on false e =
        let kind : is_waiting_on (place n) at.on ≡ true = subst (λ (a : QueuePlace). is_waiting_on a at.on ≡ true) (sym here) (rw (same_number at.on) (rw e refl)) in
        held_has (λ m. m < next) n l.waiting.seq_nos own.waiting (subst (λ xs. holds n xs ≡ true) (sym on.waiting) (some_filter (λ m. is_waiting_on (place m) at.on) n seq_nos kind there))

pub some_each : (lists : List Lists) (p : ℕ) (Q : Lists → Type 0) → ((l : Lists) → slice_get lists p ≡ Some l → Q l) → IfSome (slice_get lists p) Q
some_each lists p Q f = by (slice_get lists p) refl
  where
    by : (o : Option Lists) → slice_get lists p ≡ o → IfSome o Q
    by None e = tt
    by (Some l) e = f l e

-- once a sequence number left its place each processor has room for it where it comes
pub mid_roomy : (n : ℕ) (from into : QueuePlace) (h : ℕ) (olds mids : List Lists) → IsHeld n from olds → ((p : ℕ) (l : Lists) → slice_get olds p ≡ Some l → IsRoomy h l) → HasRoomFor h from into olds → OnEach (IsWithout n from) olds mids → (p : ℕ) (l : Lists) → slice_get mids p ≡ Some l → IsRoomy (h + bit (touches into p)) l
mid_roomy n from into h olds mids held roomy room each p l there =
    let one = each p l there in
    by (touches from p) (touches into p) one.0 l (roomy p one.0 one.1) (λ s t. room p one.0 one.1 s t)
    (λ k r. roomy_without held.0 held.1 n from p one.0 l k held.3 held.4 held.5 (held.2 p one.0 one.1) one.2 r)
  where
    by : (s t : Bool) (old mid : Lists) → IsRoomy h old → (s ≡ false → t ≡ true → IsRoomy (h + 1) old) → ((k : ℕ) → IsRoomy k old → IsRoomy (k + bit s) mid) → IsRoomy (h + bit t) mid
    by s false old mid r more step = less_room (h + 0) (h + bit s) mid (omega arith) (step h r)
    by true true old mid r more step = step h r
    by false true old mid r more step = less_room (h + 1) (h + 1 + 0) mid (omega arith) (step (h + 1) (more refl refl))
