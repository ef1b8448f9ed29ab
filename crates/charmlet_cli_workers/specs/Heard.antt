-- What clients' passes and workers' seats know.
use Rattle.std.specs.Prelude.{◌≡◌, ◌⊎◌, ℕ, ◌<◌, ◌≤◌, ◌==◌, List, [], ◌∷◌, ◌++◌, if◌then◌else◌, Some, Contains, slice_get}
use Rattle.std.specs.List.{AllByRecursion}
use Rattle.std.specs.Map.{lookup}
use Rattle.std.specs.BTreeMap.{is_at}
use Rattle.std.specs.Ordering.{nat_cmp}
use Rattle.charmlet_model.specs.declared.client.ClientRow.{ClientRow}
use Rattle.charmlet_model.specs.declared.event.Event.{Event}
use Rattle.charmlet_model.specs.declared.event.Event.TheVariants.{Accept, Deliver}
use Rattle.charmlet_model.specs.declared.names.Elem.{Elem}
use Rattle.charmlet_model.specs.declared.names.MsgId.{MsgId}
use Rattle.charmlet_model.specs.declared.refusal.Refusal.{Refusal}
use Rattle.charmlet_model.specs.declared.step.Step.{Step}
use Rattle.charmlet_model.specs.declared.step.Step.TheVariants as steps
use Rattle.charmlet_model.specs.declared.told.Told.{Told}
use Rattle.charmlet_model.specs.Row.{no_client}
use Rattle.charmlet_model.specs.Told.{told_of}
use Rattle.charmlet_model.specs.World.{World}
use Rattle.charmlet_history.specs.declared.request.Request.{Request}
use Rattle.charmlet_leases.specs.Passes.Passes.{HeldPass, accept_of, accepts_in}
use Rattle.charmlet_requests.specs.declared.handlers.Handlers.{Handlers}
use Rattle.charmlet_requests.specs.Handlers.{IsTarget, handler_of}
use Rattle.charmlet_requests.specs.Knowing.{IsNoLess, heard}
use Rattle.charmlet_script_output.specs.Named.{Names}
use Rattle.charmlet_workers.specs.Refusals.{IsRecent}
use Rattle.charmlet_workers.specs.Runtime.{ArePending, ArePendingIds, RuntimeShown, StoodOn, WasSeen, WereCounted}
use Rattle.charmlet_cli_workers.specs.Said.{Clients, Deeds, IsAskingCause, IsOfCheckpoint, IsStepCause, WereFlushed, last_of}

-- a client's pass is among these, and its client was told this about the request with this number
abbrev pub IsHeard : List HeldPass → ℕ → ℕ → Told → Type 0
IsHeard [] client number told = ⊥
IsHeard (held ∷ passes) client number told =
    ((held.pass.client ≡ client) × Contains held.heard (number, told))
    ⊎ IsHeard passes client number told

-- a client's pass is among these, and its last request has this number or one after it
abbrev pub IsReached : List HeldPass → ℕ → ℕ → Type 0
IsReached [] client number = ⊥
IsReached (held ∷ passes) client number =
    ((held.pass.client ≡ client) × (number ≤ held.pass.last)) ⊎ IsReached passes client number

-- a client's pass is among these, and this is so of its client's last number when it was lent
abbrev pub IsLentAt : List HeldPass → ℕ → (ℕ → Type 0) → Type 0
IsLentAt [] client is = ⊥
IsLentAt (held ∷ passes) client is =
    ((held.pass.client ≡ client) × is held.pass.lent_at) ⊎ IsLentAt passes client is

-- a client's pass is among these, and by what its client was told the request with this number is
-- accepted
abbrev pub IsSure : List HeldPass → ℕ → ℕ → Type 0
IsSure [] client number = ⊥
IsSure (held ∷ passes) client number =
    ((held.pass.client ≡ client) × (number ≤ held.pass.row.last)) ⊎ IsSure passes client number

-- Why a request is refused to a client that has these accepts: whatever its last number was when a
-- runtime opened, or where that is the number at which its pass among these was lent.
abbrev pub IsAskingCauseBy : World → List HeldPass → List Event → ℕ → ℕ → Elem → List ℕ → Refusal →
    Type 0
IsAskingCauseBy opening passes accepts client number to words refusal =
    ((first : ℕ) → IsAskingCause opening accepts first number to words refusal)
    ⊎ IsLentAt passes client (λ first.
    IsAskingCause opening accepts first number to words refusal)

-- why a step is refused, a request as far as these passes tell
abbrev pub IsStepCauseBy : RuntimeShown → List HeldPass → List Event → Step → Refusal → Type 0
IsStepCauseBy shown passes accepts (steps.Request client number to entry words) refusal =
    IsAskingCauseBy shown.opening passes (accepts_in client accepts) client number to words refusal
IsStepCauseBy shown passes accepts step refusal = IsStepCause shown accepts step refusal

-- a pass among these records so many events, or more
abbrev pub IsRecorded : List HeldPass → ℕ → Type 0
IsRecorded [] count = ⊥
IsRecorded (held ∷ passes) count = (count ≤ held.flushed) ⊎ IsRecorded passes count

-- so many events were flushed after these accepts, as far as these passes tell
abbrev pub WereFlushedBy : RuntimeShown → List HeldPass → List Event → (ℕ → ClientRow) → ℕ → Type 0
WereFlushedBy shown passes accepts knows count =
    WereFlushed shown accepts knows count
    × (((client : ℕ) → accepts_in client accepts ≡ []) ⊎ IsRecorded passes count)

-- the handlers by their names
abbrev pub names_in : Handlers → Names
names_in handlers name = handler_of handlers name

-- what these passes of a runtime know, and these names
abbrev pub known_by : RuntimeShown → Names → List HeldPass → Clients
known_by shown names passes = record {
  told = IsHeard passes;
  accepted = IsReached passes;
  earlier = λ client number. IsLentAt passes client (λ last. IsRecent last number);
  durable = IsSure passes;
  refused = IsStepCauseBy shown passes;
  target = λ name index to entry. IsTarget shown.opening index (names name) to entry;
  flushed = WereFlushedBy shown passes;
  sealed = IsOfCheckpoint shown;
  pending = ArePending shown;
  pending_ids = ArePendingIds shown;
  seen = WasSeen shown;
  stood = StoodOn shown;
  counted = WereCounted shown;
}

-- the accepts of the client's pass among these, which is the first one
abbrev pub accepts_by : ℕ → List HeldPass → List Event
accepts_by client [] = []
accepts_by client (held ∷ passes) =
    if held.pass.client == client then held.accepts else accepts_by client passes

-- what the client knows by its pass among these, which is the first one, or nothing without one
abbrev pub row_by : ℕ → List HeldPass → ClientRow
row_by client [] = no_client
row_by client (held ∷ passes) =
    if held.pass.client == client then held.pass.row else row_by client passes

-- what these passes hold as accepts and know, and the seats hold as ids, is what was done
pub record IsDoneBy (passes : List HeldPass) (lists : List (List MsgId)) (deeds : Deeds)
    : Type 0 where
  pub accepts : (client : ℕ) → accepts_in client deeds.accepts ≡ accepts_by client passes
  pub delivered : deeds.delivered ≡ lists
  pub knows : (client : ℕ) → deeds.knows client ≡ row_by client passes

-- the numbers of these accepts rise from above this one
abbrev pub AreRising : ℕ → List Event → Type 0
AreRising number [] = Unit {0}
AreRising number (Deliver id ∷ events) = AreRising number events
AreRising number (Accept client other to entry words ∷ events) = (number < other)
    × AreRising other events

-- the pass's last number is that of the last of its accepts, and their numbers rise
pub record IsCounted (held : HeldPass) : Type 0 where
  pub last : held.pass.last ≡ last_of held.pass.lent_at held.accepts
  pub rising : AreRising held.pass.lent_at held.accepts

-- each pass is found by its client at its own place, so that no client has two, and is counted
pub record AreTidy (passes : List HeldPass) (places : List (ℕ × ℕ)) : Type 0 where
  pub found : (place : ℕ) (held : HeldPass) → slice_get passes place ≡ Some held →
      lookup (is_at (nat_cmp held.pass.client)) places ≡ Some place
  pub counted : AllByRecursion IsCounted passes

-- the pass is the same client's, and knows no less, and its last flush counted no fewer events
pub record IsLater (old new : HeldPass) : Type 0 where
  pub more : List (ℕ × Told)
  pub client : new.pass.client ≡ old.pass.client
  pub lent_at : new.pass.lent_at ≡ old.pass.lent_at
  pub last : old.pass.last ≤ new.pass.last
  pub told : old.pass.row.last ≤ new.pass.row.last
  pub flushed : old.flushed ≤ new.flushed
  pub heard : new.heard ≡ old.heard ++ more

-- so is each pass among these, in their order, and there may be more behind them
abbrev pub AreLater : List HeldPass → List HeldPass → Type 0
AreLater [] new = Unit {0}
AreLater (held ∷ old) [] = ⊥
AreLater (held ∷ old) (later ∷ new) = IsLater held later × AreLater old new

-- the client's pass has this place among these
abbrev pub IsPassOf : ℕ → List HeldPass → ℕ → Type 0
IsPassOf client passes place = (held : HeldPass) × (slice_get passes place ≡ Some held)
    × (held.pass.client ≡ client)

-- none of these is the client's
abbrev pub HaveNone : ℕ → List HeldPass → Type 0
HaveNone client passes = (place : ℕ) → IsPassOf client passes place → ⊥

-- each client has accepted requests as before
abbrev pub AreAccepted : List HeldPass → List HeldPass → Type 0
AreAccepted old new = (client : ℕ) → accepts_by client new ≡ accepts_by client old

-- each client knows what it did before
abbrev pub KnowTheSame : List HeldPass → List HeldPass → Type 0
KnowTheSame old new = (client : ℕ) → row_by client new ≡ row_by client old

-- The client was told no less about the request than it knew, and no other words. It knows this too
-- then, and the others know what they did before.
abbrev pub IsToldBy : ℕ → ℕ → List HeldPass → List HeldPass → Told → Type 0
IsToldBy client number old new told = IsNoLess (told_of (row_by client old) number) told
    × ((other : ℕ) → row_by other new
    ≡ (if client == other then heard (row_by other old) number told else row_by other old))

-- The client's request was accepted, behind what each client had accepted before. Or it repeats one
-- of the client's, and nothing was.
abbrev pub IsAsked : ℕ → Request → List HeldPass → List HeldPass → Type 0
IsAsked client request old new =
    ((other : ℕ) → accepts_by other new
    ≡ accepts_by other old ++ accepts_in other (accept_of client request ∷ []))
    ⊎ (AreAccepted old new × (IsRecent (last_of 0 (accepts_by client old)) request.number
    ⊎ IsLentAt new client (λ last. IsRecent last request.number)))
