-- Which sequence numbers stand in which list.
use Rattle.std.specs.Prelude.{◌≡◌, ◌≢◌, ℕ, ◌+◌, ◌≤◌, ◌<◌, Bool, true, false, not, ◌&&◌, ◌||◌, ◌==◌, List, [], ◌∷◌, length, filter, slice_get, nat_lt, Option, Some, None, IfSome, if◌then◌else◌}
use Rattle.charmlet_model.specs.Reaction.{greatest}
use Rattle.charmlet_ready_queue.specs.SeqNos.SeqNos.{AllBefore, Climbs, with_number, without_number}
use Rattle.std.specs.List.{AllByRecursion}
use Rattle.charmlet_ready_queue.specs.declared.index.chain.Call.{Call}
use Rattle.charmlet_ready_queue.specs.declared.index.lists.Lists.{Lists}
use Rattle.charmlet_ready_queue.specs.declared.index.place.QueuePlace.{QueuePlace}
use Rattle.charmlet_ready_queue.specs.declared.index.place.Readiness.{Readiness}

-- ---- places

-- an element that stands so takes the message, which may construct it
abbrev pub takes : Readiness → Bool → Bool
takes s constructs = (s.is_there || constructs) && s.has_room

-- where the sequence number of such a message is
abbrev pub place_by : Readiness → Bool → QueuePlace
place_by s constructs = record { on = s.on; home = s.home; is_ready = takes s constructs }

-- it is on the processor, and ready
abbrev pub is_ready_on : QueuePlace → ℕ → Bool
is_ready_on at p = (at.on == p) && at.is_ready

-- it is on the processor, and waits
abbrev pub is_waiting_on : QueuePlace → ℕ → Bool
is_waiting_on at p = (at.on == p) && not at.is_ready

-- it has its home there, and is elsewhere
abbrev pub is_away_from : QueuePlace → ℕ → Bool
is_away_from at p = (at.home == p) && not (at.on == p)

-- this sequence number is here from now on, and the others stay
abbrev pub moved : ℕ → QueuePlace → (ℕ → QueuePlace) → ℕ → QueuePlace
moved n at place m = if m == n then at else place m

-- ---- the lists

-- the lists of a processor are the sequence numbers on it that are ready, and those that wait; and
-- so many that have their home there are elsewhere
pub record IsOn (seq_nos : List ℕ) (place : ℕ → QueuePlace) (p : ℕ) (l : Lists) : Type 0 where
  pub ready : l.ready.seq_nos ≡ filter (λ n. is_ready_on (place n) p) seq_nos
  pub waiting : l.waiting.seq_nos ≡ filter (λ n. is_waiting_on (place n) p) seq_nos
  pub away : l.away ≡ length (filter (λ n. is_away_from (place n) p) seq_nos)

-- those of each processor are
abbrev pub IsIndexOf : List ℕ → (ℕ → QueuePlace) → List Lists → Type 0
IsIndexOf seq_nos place lists = (p : ℕ) (l : Lists) → slice_get lists p ≡ Some l →
    IsOn seq_nos place p l

-- the number is one of them
abbrev pub holds : ℕ → List ℕ → Bool
holds n [] = false
holds n (m ∷ seq_nos) = (m == n) || holds n seq_nos

-- the lists have the sequence number, and there
abbrev pub IsHeld : ℕ → QueuePlace → List Lists → Type 0
IsHeld n at lists = (seq_nos : List ℕ) × (place : ℕ → QueuePlace) × IsIndexOf seq_nos place lists
    × Climbs seq_nos × (holds n seq_nos ≡ true) × (place n ≡ at)

-- ---- the sequence numbers of one element

-- they have their numbers, and are where the element's stand says
abbrev pub ArePositioned : Readiness → List Call → List ℕ → (ℕ → QueuePlace) → Type 0
ArePositioned readiness [] seq_nos place = Unit {0}
ArePositioned readiness (c ∷ calls) seq_nos place = (holds c.number seq_nos ≡ true)
    × (place c.number ≡ place_by readiness c.constructs)
    × ArePositioned readiness calls seq_nos place

-- none has the number of one behind it
abbrev pub AreApart : List Call → Type 0
AreApart [] = Unit {0}
AreApart (c ∷ calls) = AllByRecursion (λ d. d.number ≢ c.number) calls × AreApart calls

-- the lists have them, and where the element's stand says
abbrev pub AreHeld : Readiness → List Call → List Lists → Type 0
AreHeld readiness calls lists = (seq_nos : List ℕ) × (place : ℕ → QueuePlace)
    × IsIndexOf seq_nos place lists × Climbs seq_nos × ArePositioned readiness calls seq_nos place

-- where sequence numbers are once the element of these stands so
abbrev pub stood : Readiness → List Call → (ℕ → QueuePlace) → ℕ → QueuePlace
stood readiness [] place = place
stood readiness (c ∷ calls) place =
    stood readiness calls (moved c.number (place_by readiness c.constructs) place)

-- ---- room

-- how many sequence numbers the lists of a processor may have to hold without a move: those on it,
-- and those that may come home
abbrev pub load : Lists → ℕ
load l = length l.ready.seq_nos + length l.waiting.seq_nos + l.away

-- each list has room for all of them, and for so many more
pub record IsRoomy (n : ℕ) (l : Lists) : Type 0 where
  pub ready : load l + n ≤ l.ready.capacity
  pub waiting : load l + n ≤ l.waiting.capacity

-- each sequence number is before the number
pub record IsBelow (n : ℕ) (l : Lists) : Type 0 where
  pub ready : AllBefore n l.ready.seq_nos
  pub waiting : AllBefore n l.waiting.seq_nos

-- the lists of each processor, for how many more sequence numbers each of them has room, and the
-- number of the next sequence number
pub record Indexed : Type 0 where
  pub lists : List Lists
  pub headroom : ℕ
  pub next : ℕ

-- each list has that room, each sequence number is before the next one, and there are numbers for
-- as many more
pub record AreKept (headroom next : ℕ) (lists : List Lists) : Type 0 where
  pub numbers : next + headroom ≤ greatest
  pub roomy : (p : ℕ) (l : Lists) → slice_get lists p ≡ Some l → IsRoomy headroom l
  pub below : (p : ℕ) (l : Lists) → slice_get lists p ≡ Some l → IsBelow next l

-- a sequence number that is there counts for the processor
abbrev pub touches : QueuePlace → ℕ → Bool
touches at p = (at.on == p) || (at.home == p)

-- each processor for which a sequence number counts from now on, and didn't before, has room for it
abbrev pub HasRoomFor : ℕ → QueuePlace → QueuePlace → List Lists → Type 0
HasRoomFor headroom from into lists = (p : ℕ) (l : Lists) → slice_get lists p ≡ Some l →
    touches from p ≡ false → touches into p ≡ true → IsRoomy (headroom + 1) l

-- each processor for which sequence numbers of an element that stands so count from now on, and
-- didn't before, has room for so many
abbrev pub HaveRoom : ℕ → Readiness → Readiness → ℕ → List Lists → Type 0
HaveRoom headroom old new count lists = (p : ℕ) (l : Lists) → slice_get lists p ≡ Some l →
    touches (place_by old true) p ≡ false → touches (place_by new true) p ≡ true →
    IsRoomy (headroom + count) l

-- ---- one sequence number

-- the lists of a processor without it
pub record IsWithout (n : ℕ) (at : QueuePlace) (p : ℕ) (old new : Lists) : Type 0 where
  pub ready : new.ready.seq_nos ≡ (if is_ready_on at p
      then without_number n old.ready.seq_nos else old.ready.seq_nos)
  pub waiting : new.waiting.seq_nos ≡ (if is_waiting_on at p
      then without_number n old.waiting.seq_nos else old.waiting.seq_nos)
  pub away : new.away + (if is_away_from at p then 1 else 0) ≡ old.away
  pub ready_capacity : new.ready.capacity ≡ old.ready.capacity
  pub waiting_capacity : new.waiting.capacity ≡ old.waiting.capacity

-- with it
pub record IsWith (n : ℕ) (at : QueuePlace) (p : ℕ) (old new : Lists) : Type 0 where
  pub ready : new.ready.seq_nos ≡ (if is_ready_on at p
      then with_number n old.ready.seq_nos else old.ready.seq_nos)
  pub waiting : new.waiting.seq_nos ≡ (if is_waiting_on at p
      then with_number n old.waiting.seq_nos else old.waiting.seq_nos)
  pub away : new.away ≡ old.away + (if is_away_from at p then 1 else 0)
  pub ready_capacity : new.ready.capacity ≡ old.ready.capacity
  pub waiting_capacity : new.waiting.capacity ≡ old.waiting.capacity

-- so it is on each processor
abbrev pub OnEach : (ℕ → Lists → Lists → Type 0) → List Lists → List Lists → Type 0
OnEach R olds news = (p : ℕ) (new : Lists) → slice_get news p ≡ Some new →
    (old : Lists) × (slice_get olds p ≡ Some old) × R p old new

-- ---- the oldest

-- the first one of a kind
abbrev pub first_of : (ℕ → Bool) → List ℕ → Option ℕ
first_of p [] = None
first_of p (n ∷ seq_nos) = if p n then Some n else first_of p seq_nos

-- the earlier one of two
abbrev pub earlier : Option ℕ → Option ℕ → Option ℕ
earlier None y = y
earlier (Some a) None = Some a
earlier (Some a) (Some b) = if nat_lt b a then Some b else Some a

-- one with the processor on which it is
abbrev pub IsPlaced : (ℕ → QueuePlace) → Option (ℕ × ℕ) → Type 0
IsPlaced place r = IfSome r (λ e. (place e.1).on ≡ e.0)
