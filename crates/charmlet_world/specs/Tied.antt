-- How sequence numbers and their places are tied to the pending messages and to how elements stand.
use Rattle.std.specs.Prelude.{◌≡◌, ℕ, ◌+◌, ◌≤◌, ◌<◌, true, false, ◌&&◌, ◌==◌, nat_le, is_some, List, [], ◌∷◌, ◌++◌, length, Option, Some, None, unwrap_or, if◌then◌else◌}
use Rattle.std.specs.List.{AllZip}
use Rattle.charmlet_model.specs.declared.names.Elem.{Elem}
use Rattle.charmlet_model.specs.declared.message.Message.{Message}
use Rattle.charmlet_model.specs.declared.TheConstants.{CONSTRUCT}
use Rattle.charmlet_model.specs.Core.{home}
use Rattle.charmlet_model.specs.Names.{same_elem}
use Rattle.charmlet_model.specs.Reaction.{greatest}
use Rattle.charmlet_locate.specs.Locations.{is_processor_count}
use Rattle.charmlet_ready_queue.specs.SeqNos.SeqNos.{AllBefore, Climbs}
use Rattle.charmlet_ready_queue.specs.declared.index.chain.Call.{Call}
use Rattle.charmlet_ready_queue.specs.declared.index.lists.Lists.{Lists}
use Rattle.charmlet_ready_queue.specs.declared.index.place.QueuePlace.{QueuePlace}
use Rattle.charmlet_ready_queue.specs.declared.index.place.Readiness.{Readiness}
use Rattle.charmlet_ready_queue.specs.Index.Index.{Indexed, IsIndexOf, place_by}
use Rattle.charmlet_world.specs.declared.element.Element.{Element}
use Rattle.charmlet_world.specs.Seen.{IsSlot, element_at}
use Rattle.charmlet_world.specs.Standing.{element_in, risen}
use Rattle.charmlet_world.specs.Waiting.{Waiting}

-- ---- stands

-- how an element stands that has this home, and of which this is kept
abbrev pub readiness_at : ℕ → Element → Readiness
readiness_at at_home e = record {
  on = unwrap_or e.place at_home;
  home = at_home;
  is_there = is_some e.place;
  has_room = nat_le (e.received + 1) greatest && nat_le (e.sent + 16) greatest;
}

-- how an element stands, of which this is kept
abbrev pub readiness_of : ℕ → Elem → Element → Readiness
readiness_of processors x e = readiness_at (home x processors) e

-- how each element stands by its row
abbrev pub readiness_by : ℕ → List (Elem × Element) → Elem → Readiness
readiness_by processors rows x = readiness_of processors x (element_at (risen rows) x)

-- only this element may stand otherwise
abbrev pub DiffersAt : Elem → (Elem → Readiness) → (Elem → Readiness) → Type 0
DiffersAt x old new = (y : Elem) → same_elem y x ≡ false → new y ≡ old y

-- ---- sequence numbers

-- the sequence numbers are the messages', in their order, and each is where its receiver's stand
-- says
abbrev pub ArePlacedBy : (Elem → Readiness) → (ℕ → QueuePlace) → List ℕ → List Message → Type 0
ArePlacedBy readiness place seq_nos ms =
    AllZip (λ n m. place n ≡ place_by (readiness m.to) (m.entry == CONSTRUCT)) seq_nos ms

-- the message of this sequence number
abbrev pub seq_as : ℕ → List ℕ → List Message → Option Message
seq_as n [] ms = None
seq_as n (b ∷ seq_nos) [] = None
seq_as n (b ∷ seq_nos) (m ∷ ms) = if b == n then Some m else seq_as n seq_nos ms

-- the sequence numbers of the messages to an element, the youngest first
abbrev pub calls_down : Elem → List ℕ → List Message → List Call
calls_down x [] ms = []
calls_down x (b ∷ seq_nos) [] = []
calls_down x (b ∷ seq_nos) (m ∷ ms) = if same_elem m.to x
    then calls_down x seq_nos ms ++ record { number = b; constructs = m.entry == CONSTRUCT } ∷ []
    else calls_down x seq_nos ms

-- ---- what is kept of them

-- how many processors there are, the elements' rows, the pending messages, and for how many more
-- there is room
pub record Scheduled : Type 0 where
  pub processors : ℕ
  pub rows : List (Elem × Element)
  pub pending : List Message
  pub room : ℕ

-- the sequence numbers climb, below the next one, and the index has them where the elements stand:
-- on processors for which it has lists, once there is room for a message
pub record IsTied (processors : ℕ) (rows : List (Elem × Element)) (w : Waiting) (i : Indexed)
    : Type 0 where
  pub some_processors : is_processor_count processors ≡ true
  pub within : (x : Elem) → (readiness_by processors rows x).on < processors
  pub climbs : Climbs w.seq_nos
  pub next : w.next ≤ i.next
  pub opened : 0 < length w.seq_nos + i.headroom → length i.lists ≡ processors
  pub few : length i.lists ≤ processors
  pub place : ℕ → QueuePlace
  pub are : ArePlacedBy (readiness_by processors rows) place w.seq_nos w.messages
  pub index : IsIndexOf w.seq_nos place i.lists
  pub below : AllBefore w.next w.seq_nos

-- some element stands so, and the index has the sequence numbers where the elements stand
abbrev pub IsCalled : Elem → Readiness → List ℕ → List Message → List Lists → Type 0
IsCalled x readiness seq_nos ms lists = (place : ℕ → QueuePlace) × (stands : Elem → Readiness)
    × ArePlacedBy stands place seq_nos ms × IsIndexOf seq_nos place lists × Climbs seq_nos
    × (stands x ≡ readiness)

-- the lists have the sequence numbers where the elements stand
abbrev pub IsIndexed : (Elem → Readiness) → List ℕ → List Message → List Lists → Type 0
IsIndexed stands seq_nos ms lists = (place : ℕ → QueuePlace) × ArePlacedBy stands place seq_nos ms
    × IsIndexOf seq_nos place lists

-- the slot is the receiver's, whose counts have room for the delivery of a message
pub record Takes (rows : List (Elem × Element)) (slot sends : ℕ) (to : Elem) : Type 0 where
  pub receiver : IsSlot rows slot to
  pub sent : (element_in rows to).sent + sends ≤ greatest
  pub received : (element_in rows to).received + 1 ≤ greatest
