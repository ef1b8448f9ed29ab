-- What passes hold, and what their authority has of them.
use Rattle.std.specs.Prelude.{◌≡◌, ◌≢◌, ℕ, ◌+◌, ◌-◌, ◌≤◌, ◌==◌, nat_lt, ◌&&◌, true, List, [], ◌∷◌, ◌++◌, length, drop, take, if◌then◌else◌, Option, Some, None, slice_get, slice_set, Contains, Result, IfOk, IfErr, OnErr}
use Rattle.std.specs.List.{AllByRecursion}
use Rattle.charmlet_model.specs.declared.event.Event.{Event}
use Rattle.charmlet_model.specs.declared.event.Event.TheVariants.{Accept, Deliver}
use Rattle.charmlet_model.specs.declared.refusal.Refusal.{Refusal}
use Rattle.charmlet_model.specs.declared.refusal.Refusal.TheVariants as refusals
use Rattle.charmlet_model.specs.declared.told.Told.{Told}
use Rattle.charmlet_model.specs.declared.told.Told.TheVariants.{Accepted}
use Rattle.charmlet_model.specs.Core.{Core}
use Rattle.charmlet_model.specs.Reaction.{capped}
use Rattle.charmlet_model.specs.Told.{Holds}
use Rattle.charmlet_model.specs.World.{client_of}
use Rattle.charmlet_history.specs.declared.request.Request.{Request}
use Rattle.charmlet_requests.specs.Knowing.{IsNoLess, is_unknown}
use Rattle.charmlet_requests.specs.Pass.{Pass, known, lent, with_told, is_out, IsTold, IsUpToDate}

-- A pass was lent after so many events, those before the opening world among them. It knows the
-- highest that its client was told of each request, and holds its client's accepts since then, and
-- all that its client was told, about which request and what; both in order. And it records how
-- many events there were at the last flush that it was handed to, those before the opening world
-- among them, or 0.
pub record HeldPass : Type 0 where
  pub pass : Pass
  pub since : ℕ
  pub accepts : List Event
  pub heard : List (ℕ × Told)
  pub flushed : ℕ

-- a pass that is lent after so many events to a client whose last number is this one
abbrev pub lent_since : ℕ → ℕ → ℕ → HeldPass
lent_since client last since = record {
  pass = lent client last;
  since = since;
  accepts = [];
  heard = [];
  flushed = 0;
}

-- how many events there are, those before the opening world among them
abbrev pub event_count : Core → ℕ
event_count core = core.before + length core.history

-- what the pass with this fragment holds
abbrev pub held_by : Option HeldPass → HeldPass
held_by None = lent_since 0 0 0
held_by (Some held) = held

-- the client's accepts among these events
abbrev pub accepts_in : ℕ → List Event → List Event
accepts_in client [] = []
accepts_in client (Deliver id ∷ events) = accepts_in client events
accepts_in client (Accept asking number to entry words ∷ events) =
    if asking == client then Accept asking number to entry words ∷ accepts_in client events
    else accepts_in client events

-- these answers to a client, each about a request, are true of the durable events
abbrev pub AreTrue : Core → ℕ → List (ℕ × Told) → Type 0
AreTrue core client answers = AllByRecursion (λ (answer : ℕ × Told).
    Holds core.opening (take core.durable core.history) client answer.0 answer.1) answers

-- of two answers about one request the later says no less, and no other words
abbrev pub AreRising : List (ℕ × Told) → Type 0
AreRising [] = Unit {0}
AreRising (answer ∷ later) = AllByRecursion (λ (next : ℕ × Told).
    next.0 ≡ answer.0 → IsNoLess answer.1 next.1) later × AreRising later

-- the pass knows no less of any request than these answers say
abbrev pub AreKnown : Pass → List (ℕ × Told) → Type 0
AreKnown pass answers = AllByRecursion (λ (answer : ℕ × Told).
    IsNoLess answer.1 (known pass answer.0)) answers

-- All that the pass's client was told is true of the durable events, and of no request it was told
-- less than before. What the pass knows by it is true too, and no less. It was lent at its client's
-- last number in the opening world, and its last number is its client's now. Its accepts are
-- exactly its client's since it was lent, and all of this history. As many events as it records are
-- durable.
pub record IsCurrent (held : HeldPass) (core : Core) : Type 0 where
  pub heard : AreTrue core held.pass.client held.heard
  pub rising : AreRising held.heard
  pub is_known : AreKnown held.pass held.heard
  pub told : IsTold held.pass core
  pub lent_at : held.pass.lent_at ≡ (client_of core.opening held.pass.client).last
  pub up_to_date : IsUpToDate held.pass core
  pub since : core.before ≤ held.since
  pub within : held.since ≤ core.before + length core.history
  pub accepts : held.accepts
      ≡ accepts_in held.pass.client (drop (held.since - core.before) core.history)
  pub all : held.accepts ≡ accepts_in held.pass.client core.history
  pub flushed : held.flushed ≤ core.before + core.durable

-- The authority has the clients whose passes are out, and what each pass holds, by its place among
-- those that were lent: nothing any more once it was taken in.
pub record LentPasses : Type 0 where
  pub out : List ℕ
  pub held : List (Option HeldPass)

-- what the passes hold that are out
abbrev pub passes_out : List (Option HeldPass) → List HeldPass
passes_out [] = []
passes_out (None ∷ held) = passes_out held
passes_out (Some h ∷ held) = h ∷ passes_out held

-- none of these passes is the client's
abbrev pub HasNone : List (Option HeldPass) → ℕ → Type 0
HasNone held client = (place : ℕ) (h : HeldPass) → slice_get held place ≡ Some (Some h) →
    h.pass.client ≢ client

-- these are the passes of all clients that have accepts in this history
abbrev pub HaveAllAccepts : List HeldPass → Core → Type 0
HaveAllAccepts passes core = (client : ℕ) →
    AllByRecursion (λ (h : HeldPass). h.pass.client ≢ client) passes →
    accepts_in client core.history ≡ []

-- each pass that is out is current, no client has two, and one that has none has no accepts
pub record AreCurrent (passes : LentPasses) (core : Core) : Type 0 where
  pub each : (place : ℕ) (h : HeldPass) → slice_get passes.held place ≡ Some (Some h) →
      IsCurrent h core
  pub out : (place : ℕ) (h : HeldPass) → slice_get passes.held place ≡ Some (Some h) →
      is_out h.pass.client passes.out ≡ true
  pub apart : (i j : ℕ) (g h : HeldPass) → slice_get passes.held i ≡ Some (Some g) →
      slice_get passes.held j ≡ Some (Some h) → g.pass.client ≡ h.pass.client → i ≡ j
  pub others : (client : ℕ) → HasNone passes.held client → accepts_in client core.history ≡ []

-- One of the passes that are out held the one before and holds the other after, and so has the
-- authority in its place. Of all other passes the authority has what it had.
pub record IsKept (old new : LentPasses) (before after : HeldPass) : Type 0 where
  pub place : ℕ
  pub had : slice_get old.held place ≡ Some (Some before)
  pub has : new.held ≡ slice_set old.held place (Some after)
  pub out : new.out ≡ old.out

-- these are the passes that are out, all of them
pub record AreAll (held : List (Option HeldPass)) (passes : List HeldPass) : Type 0 where
  pub each : (place : ℕ) (h : HeldPass) → slice_get held place ≡ Some (Some h) → Contains passes h
  pub only : AllByRecursion (λ h. (place : ℕ) × (slice_get held place ≡ Some (Some h))) passes

-- the event by which a client's request is accepted
abbrev pub accept_of : ℕ → Request → Event
accept_of client request =
    Accept client request.number request.to request.entry request.words.now

-- the pass's accepts once a request of its client was answered: one more, unless it was a repeat,
-- whose number isn't above the pass's last one
abbrev pub accepts_after : HeldPass → Request → List Event
accepts_after held request = if nat_lt held.pass.last request.number
    then held.accepts ++ accept_of held.pass.client request ∷ [] else held.accepts

-- what the pass holds once its client was told this about a request
abbrev pub with_answer : HeldPass → Pass → ℕ → Told → HeldPass
with_answer held pass number told = record held {
  pass = pass;
  heard = held.heard ++ (number, told) ∷ [];
}

-- what the pass holds once a request of its client was answered
abbrev pub with_request : HeldPass → Pass → Request → Told → HeldPass
with_request held pass request told = record (with_answer held pass request.number told) {
  accepts = accepts_after held request;
}

-- The answer to a request or a question with this number by a pass. What is told is no less than
-- what the pass knew about it, and no other words, and then the pass knows no less than that. It
-- knows no less about any request than before, and holds the answer behind the earlier ones. A
-- refusal leaves it as it was, and if it says which number is wanted, that is the one after the
-- pass's last.
pub record IsAnswered (old new : HeldPass) (number : ℕ)
    (result : Result Told Refusal) : Type 0 where
  pub no_less : IfOk result (λ told.
      IsNoLess (known old.pass number) told × IsNoLess told (known new.pass number))
  pub kept : (other : ℕ) → IsNoLess (known old.pass other) (known new.pass other)
  pub heard : IfOk result (λ told. new.heard ≡ old.heard ++ (number, told) ∷ [])
  pub since : new.since ≡ old.since
  pub flushed : new.flushed ≡ old.flushed
  pub err : OnErr result (new ≡ old)
  pub wanted : IfErr result (λ refusal. (wanted : ℕ) → refusal ≡ refusals.OutOfTurn wanted →
      wanted ≡ capped old.pass.last 1)

-- what the pass holds once its client was told that the last of its accepts is accepted, if there
-- is one of which nothing is known yet
abbrev pub with_last_accepted : HeldPass → HeldPass
with_last_accepted held =
    if nat_lt held.pass.lent_at held.pass.last && is_unknown (known held.pass held.pass.last)
    then with_answer held (with_told held.pass held.pass.last Accepted) held.pass.last Accepted
    else held

-- what the pass holds after a flush that counted so many events
abbrev pub with_flush : ℕ → HeldPass → HeldPass
with_flush count held = record (with_last_accepted held) { flushed = count }

-- the authority once a flush of so many events has told each of these passes, one after another
abbrev pub TellAll : ℕ → LentPasses → List HeldPass → LentPasses → Type 0
TellAll count authority [] last = last ≡ authority
TellAll count authority (held ∷ rest) last = (next : LentPasses)
    × IsKept authority next held (with_flush count held) × TellAll count next rest last
