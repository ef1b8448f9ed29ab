-- What lines of a run by workers print.
use Rattle.std.specs.Prelude.{◌≡◌, ◌⊎◌, ℕ, ◌+◌, ◌-◌, ◌^◌, ◌<◌, ◌≤◌, ◌==◌, nat_lt, min, Bool, if◌then◌else◌, true, false, ◌||◌, ◌&&◌, List, [], ◌∷◌, ◌++◌, length, take, Option, Some, None, IfSome, Result}
use Rattle.std.specs.Io.KnownBytes.{Appends}
use Rattle.std.specs.List.{AllByRecursion, flat_map}
use Rattle.charmlet_model.specs.declared.event.Event.{Event}
use Rattle.charmlet_model.specs.declared.event.Event.TheVariants.{Accept, Deliver}
use Rattle.charmlet_model.specs.declared.client.ClientRow.{ClientRow}
use Rattle.charmlet_model.specs.declared.kind.Kind.{Kind}
use Rattle.charmlet_model.specs.declared.names.Elem.{Elem}
use Rattle.charmlet_model.specs.declared.names.MsgId.{MsgId}
use Rattle.charmlet_model.specs.declared.refusal.Refusal.{Refusal}
use Rattle.charmlet_model.specs.declared.refusal.Refusal.TheVariants as refusals
use Rattle.charmlet_model.specs.declared.step.Answer.{Answer}
use Rattle.charmlet_model.specs.declared.step.Answer.TheVariants as answers
use Rattle.charmlet_model.specs.declared.step.Step.{Step}
use Rattle.charmlet_model.specs.declared.step.Step.TheVariants as steps
use Rattle.charmlet_model.specs.declared.told.Told.{Told}
use Rattle.charmlet_model.specs.declared.told.Told.TheVariants.{Accepted}
use Rattle.charmlet_model.specs.Core.{Core}
use Rattle.charmlet_model.specs.Reaction.{capped}
use Rattle.charmlet_model.specs.World.{World, client_of}
use Rattle.charmlet_model.specs.Texts.{Text, answer_text}
use Rattle.charmlet_model.specs.Row.{no_client}
use Rattle.charmlet_model.specs.Told.{Holds, told_of}
use Rattle.charmlet_hub.specs.Hub.{deliveries_in}
use Rattle.charmlet_leases.specs.Passes.Passes.{accepts_in}
use Rattle.charmlet_requests.specs.Handlers.{IsTarget}
use Rattle.charmlet_requests.specs.Knowing.{IsNoLess, heard, is_unknown}
use Rattle.charmlet_leases.specs.Seats.Woven.{IsWoven}
use Rattle.charmlet_script.specs.declared.printed.Counted.{Counted}
use Rattle.charmlet_script.specs.declared.printed.Drained.{Drained}
use Rattle.charmlet_script.specs.declared.script.HandlerLine.{HandlerLine}
use Rattle.charmlet_script.specs.declared.script.Line.{Line}
use Rattle.charmlet_script.specs.declared.script.Line.TheVariants as lines
use Rattle.charmlet_script.specs.Printed.{drained_text, pending_text, supplied_text}
use Rattle.charmlet_stock.specs.declared.by_kind.ByKind.{ByKind}
use Rattle.charmlet_stock.specs.declared.pile.Tally.{Tally}
use Rattle.charmlet_stock.specs.ByKind.{at}
use Rattle.charmlet_store.specs.declared.look.Look.{Look}
use Rattle.charmlet_workers.specs.Refusals.{IsCauseAfter, IsMoveCause, IsRecent, is_flush_refusal, is_lending_refusal, is_move_refusal, is_request_refusal, is_status_refusal, is_work_refusal}
use Rattle.charmlet_workers.specs.Runtime.{ArePending, ArePendingIds, IsMoment, RuntimeShown, StoodOn, WasSealed, WasSeen, WereCounted, named}
use Rattle.charmlet_workers.specs.Sealing.{IsLaterGeneration, is_sealing_refusal}
use Rattle.charmlet_script_output.specs.declared.restarted_line.RestartedLine.{RestartedLine}
use Rattle.charmlet_script_output.specs.Named.{Names, named_by}
use Rattle.charmlet_script_output.specs.Writing.{in_lines, memory_text, AppendsBeginning, Writes}
use Rattle.charmlet_script_output.specs.Back.{restarted_line_text}
use Rattle.charmlet_script_output.specs.Shown.{IsWhole, all_kinds, counted_texts, look_text}

-- ---- what lines do

-- What lines have done: the requests that were accepted, in order; for each worker the ids of the
-- messages that it delivered, in order; and what each client knows by all that it was told.
pub record Deeds : Type 0 where
  pub accepts : List Event
  pub delivered : List (List MsgId)
  pub knows : ℕ → ClientRow

-- nothing was done, and no client was told anything
abbrev pub IsNothing : Deeds → Type 0
IsNothing deeds = (deeds.accepts ≡ []) × AllByRecursion (λ ids. ids ≡ []) deeds.delivered
    × ((client : ℕ) → deeds.knows client ≡ no_client)

-- the number of the last of these accepts, or this one if there is none
abbrev pub last_of : ℕ → List Event → ℕ
last_of number [] = number
last_of number (Deliver id ∷ events) = last_of number events
last_of number (Accept client other to entry words ∷ events) = last_of other events

-- the number of the client's last accept among these, or 0
abbrev pub last_by : ℕ → List Event → ℕ
last_by client events = last_of 0 (accepts_in client events)

-- a client was told this about a request
abbrev pub having_told : Deeds → ℕ → ℕ → Told → Deeds
having_told deeds client number told = record deeds {
  knows = λ other. if client == other then heard (deeds.knows other) number told
      else deeds.knows other;
}

-- what a client with this last accept knows after a flush, which tells it that this is accepted
-- where it knew nothing of it
abbrev pub flushed_row : ClientRow → ℕ → ClientRow
flushed_row row last =
    if nat_lt 0 last && is_unknown (told_of row last) then heard row last Accepted else row

-- a flush told each client that has accepts
abbrev pub having_flushed : Deeds → Deeds
having_flushed deeds = record deeds {
  knows = λ client. flushed_row (deeds.knows client) (last_by client deeds.accepts);
}

-- In this history the accepts of each client are those of the lines, in order, and no others. Each
-- of its deliveries was made by a worker in these lines, or without a seat: each of these lists is
-- in the history's order.
pub record HaveDone (core : Core) (deeds : Deeds) : Type 0 where
  pub accepts : (client : ℕ) → accepts_in client deeds.accepts ≡ accepts_in client core.history
  pub own : List MsgId
  pub delivered : IsWoven (own ∷ deeds.delivered) (deliveries_in core.history)

-- what is seen of a runtime that opened at this generation, and that has this core in the end
abbrev pub shown_since : (opened : ℕ) → Core → RuntimeShown
shown_since opened core = named core.opening core.before core.processors opened

-- At a moment all events of this runtime's store were durable, and they were so many, with those
-- before its opening world. Each client that these lines had accepts of had these, and no others.
-- And what each client knows then of its requests is true of them.
pub record WereFlushed (shown : RuntimeShown) (accepts : List Event) (knows : ℕ → ClientRow)
    (count : ℕ) : Type 0 where
  pub core : Core
  pub moment : IsMoment shown core
  pub durable : core.durable ≡ length core.history
  pub counted : count ≡ core.before + length core.history
  pub accepts_are : (client : ℕ) → (accepts_in client accepts ≡ [])
      ⊎ (accepts_in client accepts ≡ accepts_in client core.history)
  pub told : (client number : ℕ) →
      Holds core.opening core.history client number (told_of (knows client) number)

-- So many events were flushed at a moment, after these accepts. If there are such accepts, at least
-- as many events are durable in this core, so no crash takes them back.
abbrev pub WereFlushedIn : (opened : ℕ) → Core → List Event → (ℕ → ClientRow) → ℕ → Type 0
WereFlushedIn opened core accepts knows count =
    WereFlushed (shown_since opened core) accepts knows count
    × (((client : ℕ) → accepts_in client accepts ≡ []) ⊎ (count ≤ core.before + core.durable))

-- ---- why steps are refused

-- Why a request is refused to a client that has had these accepts since the store opened, and whose
-- last number was the first one then. For want of a pass that is out it is refused only to a client
-- that has had none. One that is out of turn says which number is the next one, or the greatest.
-- All else is as it is known by these numbers and the arrays.
abbrev pub IsAskingCause : World → List Event → (first : ℕ) → ℕ → Elem → List ℕ → Refusal →
    Type 0
IsAskingCause opening accepts first number to words refusals.PassOut = accepts ≡ []
IsAskingCause opening accepts first number to words (refusals.OutOfTurn wanted) =
    (wanted ≡ capped (last_of first accepts) 1)
    × IsCauseAfter opening first (last_of first accepts) number to words
    (refusals.OutOfTurn wanted)
IsAskingCause opening accepts first number to words refusal =
    IsCauseAfter opening first (last_of first accepts) number to words refusal

-- why a question is refused to a client that has had these accepts since the store opened
abbrev pub IsStatusCause : List Event → Refusal → Type 0
IsStatusCause accepts refusals.PassOut = accepts ≡ []
IsStatusCause accepts _ = Unit {0}

-- Why a step is refused after these accepts since a runtime opened, by what the lines and the
-- arrays say; of a flush and of a checkpoint they say nothing.
abbrev pub IsStepCause : RuntimeShown → List Event → Step → Refusal → Type 0
IsStepCause shown accepts (steps.Request client number to entry words) refusal =
    IsAskingCause shown.opening (accepts_in client accepts) (client_of shown.opening client).last
    number to words refusal
IsStepCause shown accepts (steps.Status client number) refusal =
    IsStatusCause (accepts_in client accepts) refusal
IsStepCause shown accepts (steps.Move elem processor) refusal =
    IsMoveCause shown elem processor refusal
IsStepCause shown accepts step refusal = Unit {0}

-- ---- what is known of it

-- What is known of clients: what a client was told about which of its requests, which of them were
-- accepted, which before the store opened, and which are durable. Why a step is refused after these
-- accepts. Where a call of a name goes, to the element with this index, and at which entry. How
-- many events there were when they were flushed after these accepts, where clients know so much,
-- and which generation a checkpoint is of. And what was so at some moment: how many messages were
-- pending, which ones, what was seen of an element, on which processor it stood, and how many
-- objects there were.
pub record Clients : Type 1 where
  pub told : ℕ → ℕ → Told → Type 0
  pub accepted : ℕ → ℕ → Type 0
  pub earlier : ℕ → ℕ → Type 0
  pub durable : ℕ → ℕ → Type 0
  pub refused : List Event → Step → Refusal → Type 0
  pub target : Text → ℕ → Elem → ℕ → Type 0
  pub flushed : List Event → (ℕ → ClientRow) → ℕ → Type 0
  pub sealed : ℕ → Type 0
  pub pending : ℕ → Type 0
  pub pending_ids : List MsgId → Type 0
  pub seen : Elem → Look → Type 0
  pub stood : Elem → ℕ → Type 0
  pub counted : ByKind Tally → Type 0

-- What a client was told about a request is true whichever events of this core a crash leaves, all
-- durable ones among them.
abbrev pub StaysTrue : Core → ℕ → ℕ → Told → Type 0
StaysTrue core client number told = (kept : ℕ) → core.durable ≤ kept → kept ≤ length core.history →
    Holds core.opening (take kept core.history) client number told

-- a checkpoint made this generation, a later one than that at which it opened; and at a moment the
-- store had it, and all its events were durable
abbrev pub IsOfCheckpoint : RuntimeShown → ℕ → Type 0
IsOfCheckpoint shown generation = IsLaterGeneration shown.generation generation
    × WasSealed shown generation

-- What was told stays true of this core, what was accepted is so in its present world, what is
-- durable is so whichever events a crash leaves, steps are refused for their causes, and a
-- checkpoint is of a later generation than the one at which the runtime opened.
abbrev pub known_in : (opened : ℕ) → Core → Names → Clients
known_in opened core names = record {
  told = StaysTrue core;
  accepted = λ client number. Holds core.opening core.history client number Accepted;
  earlier = λ client number. IsRecent (client_of core.opening client).last number;
  durable = λ client number. StaysTrue core client number Accepted;
  refused = IsStepCause (shown_since opened core);
  target = λ name index to entry. IsTarget core.opening index (names name) to entry;
  flushed = WereFlushedIn opened core;
  sealed = IsOfCheckpoint (shown_since opened core);
  pending = ArePending (shown_since opened core);
  pending_ids = ArePendingIds (shown_since opened core);
  seen = WasSeen (shown_since opened core);
  stood = StoodOn (shown_since opened core);
  counted = WereCounted (shown_since opened core);
}

-- nothing is known of clients
abbrev pub unknown : Clients
unknown = record {
  told = λ client number told. Unit {0};
  accepted = λ client number. Unit {0};
  earlier = λ client number. Unit {0};
  durable = λ client number. Unit {0};
  refused = λ accepts step refusal. Unit {0};
  target = λ name index to entry. Unit {0};
  flushed = λ accepts knows count. Unit {0};
  sealed = λ generation. Unit {0};
  pending = λ count. Unit {0};
  pending_ids = λ ids. Unit {0};
  seen = λ elem look. Unit {0};
  stood = λ elem processor. Unit {0};
  counted = λ census. Unit {0};
}

-- ---- what lines print

-- the step can be refused so, and one of a client also because there is no pass for the client
abbrev pub is_refusal_of : Step → Refusal → Bool
is_refusal_of (steps.Request client number to entry words) refusal =
    is_request_refusal refusal || is_lending_refusal refusal
is_refusal_of (steps.Status client number) refusal =
    is_status_refusal refusal || is_lending_refusal refusal
is_refusal_of (steps.Move elem processor) refusal = is_move_refusal refusal
is_refusal_of steps.Flush refusal = is_flush_refusal refusal
is_refusal_of steps.Checkpoint refusal = is_sealing_refusal refusal
is_refusal_of (steps.Deliver processor id) refusal = false

-- A client's request was accepted, exactly so, behind those before it. Or it repeats one of the
-- last eight up to the last one that a line before had accepted, or up to the last one that was
-- accepted before the store opened; and then nothing is done.
abbrev pub IsAccepted : Clients → (before : Deeds) → ℕ → ℕ → Elem → ℕ → List ℕ →
    (after : Deeds) → Type 0
IsAccepted clients before client number to entry words after =
    (after ≡ record before {
      accepts = before.accepts ++ Accept client number to entry words ∷ [];
    })
    ⊎ ((after ≡ before)
    × (IsRecent (last_by client before.accepts) number ⊎ clients.earlier client number))

-- A client is told what is so, and no less about the request than follows from all that it was told
-- before, and no other words.
abbrev pub IsTold : Clients → (before : Deeds) → ℕ → ℕ → Told → Type 0
IsTold clients before client number told = clients.told client number told
    × IsNoLess (told_of (before.knows client) number) told

-- each of these accepts is durable, and so is each request before it
abbrev pub AreDurable : Clients → List Event → Type 0
AreDurable clients accepts = (client number : ℕ) → 0 < number → number ≤ last_by client accepts →
    clients.durable client number

-- An answer of a step's own form, or one of its refusals, for a cause. A client was told what it
-- says, a request that isn't refused was accepted, and after a flush that isn't refused all accepts
-- of the lines so far are durable, and it tells how many events there were at that moment.
abbrev pub Answers : Clients → (before : Deeds) → Answer → Step → (after : Deeds) → Type 0
Answers clients before (answers.Refused refusal) step after =
    (is_refusal_of step refusal ≡ true) × clients.refused before.accepts step refusal
    × (after ≡ before)
Answers clients before (answers.Told told) (steps.Request client number to entry words) after =
    IsTold clients before client number told × clients.accepted client number
    × IsAccepted clients (having_told before client number told) client number to entry words after
Answers clients before (answers.Told told) (steps.Status client number) after =
    IsTold clients before client number told × (after ≡ having_told before client number told)
Answers clients before (answers.Moved moved place) (steps.Move elem processor) after =
    (moved ≡ elem) × (place ≡ processor) × clients.stood elem processor × (after ≡ before)
Answers clients before (answers.Flushed durable) steps.Flush after =
    AreDurable clients before.accepts
    × clients.flushed before.accepts (having_flushed before).knows durable
    × (after ≡ having_flushed before)
Answers clients before (answers.Checkpointed generation) steps.Checkpoint after =
    clients.sealed generation × (after ≡ before)
Answers clients before answer step after = ⊥

-- a step prints its answer
abbrev pub SaysStep : Clients → (before : Deeds) → Step → List Text → (after : Deeds) → Type 0
SaysStep clients before step texts after = (answer : Answer)
    × Answers clients before answer step after × (texts ≡ answer_text answer ∷ [])

-- the line of a refusal, if there is one
abbrev pub refused_texts : Option Refusal → List Text
refused_texts None = []
refused_texts (Some refusal) = answer_text (answers.Refused refusal) ∷ []

-- what a line prints that supplies objects, or is out of memory
abbrev pub IsSupplyText : Kind → ℕ → List Text → Type 0
IsSupplyText kind count texts =
    (texts ≡ supplied_text (record { kind = kind; count = count }) ∷ [])
    ⊎ (texts ≡ memory_text ∷ [])

-- each worker delivered some more messages, at most so many each, and this many in all
abbrev pub HaveDelivered : ℕ → (before after : List (List MsgId)) → ℕ → Type 0
HaveDelivered turns [] after count = (after ≡ []) × (count ≡ 0)
HaveDelivered turns (ids ∷ before) after count =
    (more : List MsgId) × (rest : List (List MsgId)) × (others : ℕ) × (length more ≤ turns)
    × HaveDelivered turns before rest others × (after ≡ (ids ++ more) ∷ rest)
    × (count ≡ length more + others)

-- What a drain prints: how many messages its workers delivered, or the greatest number that is
-- printed, and how many are pending then; and maybe a worker's refusal.
pub record IsDrained (clients : Clients) (turns : ℕ) (before after : Deeds) (texts : List Text)
    : Type 0 where
  pub count : ℕ
  pub delivered : HaveDelivered turns before.delivered after.delivered count
  pub accepts : after.accepts ≡ before.accepts
  pub knows : after.knows ≡ before.knows
  pub drained : Drained
  pub counts : drained.delivered ≡ min count (2 ^ 32 - 1)
  pub left : clients.pending drained.left
  pub refusal : Option Refusal
  pub known : IfSome refusal (λ refusal. is_work_refusal refusal ≡ true)
  pub texts_are : texts ≡ drained_text drained ∷ refused_texts refusal

-- what a line prints that shows an element as it was seen, or why it can't be seen
abbrev pub IsStateText : (Elem → Look → Type 0) → Elem → List Text → Type 0
IsStateText seen elem texts = ((look : Look) × seen elem look × (texts ≡ look_text elem look ∷ []))
    ⊎ ((refusal : Refusal) × ((refusal ≡ refusals.Halted) ⊎ (refusal ≡ refusals.Memory))
    × (texts ≡ answer_text (answers.Refused refusal) ∷ []))

-- what a line prints that shows the pending messages, by their ids, or is out of memory
abbrev pub IsPendingText : (List MsgId → Type 0) → List Text → Type 0
IsPendingText pending texts = ((ids : List MsgId) × pending ids × (texts ≡ pending_text ids ∷ []))
    ⊎ (texts ≡ memory_text ∷ [])

-- no more objects are in the stock or retired than were supplied
abbrev pub IsWithin : Tally → Type 0
IsWithin tally = tally.in_stock + tally.retired ≤ tally.supplied

-- the numbers of a kind: what is neither in the stock nor retired is on shelves
abbrev pub counted_by : ByKind Tally → Kind → Counted
counted_by census kind = record {
  kind = kind;
  supplied = (at census kind).supplied;
  on_shelves = (at census kind).supplied - (at census kind).in_stock - (at census kind).retired;
  in_stock = (at census kind).in_stock;
  retired = (at census kind).retired;
}

-- What a census prints: a line for each kind that objects were supplied of, in rising order, by
-- which each of them is on a shelf, in the stock, or retired.
abbrev pub IsCensusText : (ByKind Tally → Type 0) → List Text → Type 0
IsCensusText counted texts = (census : ByKind Tally) × counted census
    × ((kind : Kind) → IsWhole (counted_by census kind))
    × (texts ≡ flat_map (λ kind. counted_texts (counted_by census kind)) all_kinds)

-- What a line prints, those texts of its own form or of a refusal, and what it does. What it isn't
-- said to do it doesn't do: only requests are accepted, and only drains deliver.
abbrev pub Says : Clients → (before : Deeds) → Line → List Text → (after : Deeds) → Type 0
Says clients before (lines.Step step) texts after = SaysStep clients before step texts after
Says clients before (lines.Call client number name index words) texts after =
    (array : ℕ) × (entry : ℕ)
    × clients.target name index (record { array = array; index = index }) entry
    × SaysStep clients before (steps.Request client number
    (record { array = array; index = index }) entry words) texts after
Says clients before (lines.Supply kind count) texts after = IsSupplyText kind count texts
    × (after ≡ before)
Says clients before (lines.Drain count) texts after = IsDrained clients count before after texts
Says clients before (lines.State elem) texts after = IsStateText clients.seen elem texts
    × (after ≡ before)
Says clients before lines.Pending texts after = IsPendingText clients.pending_ids texts
    × (after ≡ before)
Says clients before lines.Census texts after = IsCensusText clients.counted texts
    × (after ≡ before)

-- the texts of lines one after another, and what they do
abbrev pub SayInTurn : Clients → (first : Deeds) → List Line → List Text → (last : Deeds) → Type 0
SayInTurn clients first [] texts last = (texts ≡ []) × (last ≡ first)
SayInTurn clients first (line ∷ lines) texts last =
    (next : Deeds) × (printed : List Text) × (rest : List Text)
    × Says clients first line printed next × SayInTurn clients next lines rest last
    × (texts ≡ printed ++ rest)

-- such texts are printed, or, if that fails, a beginning of them
abbrev pub IsWritten : {T E : Type 0} → Result T E → (List Text → Type 0) →
    (before after : Option Text) → Type 0
IsWritten result are before after = (texts : List Text) × are texts
    × Writes result before after (in_lines texts)

-- lines print their texts one after another
abbrev pub AreSaid : Clients → (first : Deeds) → List Line → (last : Deeds) →
    (before after : Option Text) → Type 0
AreSaid clients first lines last before after = (texts : List Text)
    × SayInTurn clients first lines texts last × Appends before after (in_lines texts)

-- some lines print their texts, and the next line a beginning of its texts
abbrev pub AreCutOff : Clients → (first : Deeds) → List Line → (last : Deeds) →
    (before after : Option Text) → Type 0
AreCutOff clients first lines last before after =
    (whole : List Line) × (line : Line) × (rest : List Line) × (lines ≡ whole ++ line ∷ rest)
    × (mid : Deeds) × (between : Option Text) × AreSaid clients first whole mid before between
    × (texts : List Text) × Says clients mid line texts last
    × AppendsBeginning between after (in_lines texts)

-- the line of a store that came back, if one did
abbrev pub opening_texts : Option RestartedLine → List Text
opening_texts None = []
opening_texts (Some line) = restarted_line_text line ∷ []

-- the generation at which it goes on, or that of a new store
abbrev pub opening_generation : Option RestartedLine → ℕ
opening_generation None = 1
opening_generation (Some line) = line.generation

-- That line and all lines of the script are printed. What they did, from nothing on, is so.
abbrev pub ArePrinted : Option RestartedLine → Clients → (Deeds → Type 0) → List Line →
    (before after : Option Text) → Type 0
ArePrinted restarted clients did lines before after =
    (first : Deeds) × (last : Deeds) × IsNothing first × did last
    × (between : Option Text) × Appends before between (in_lines (opening_texts restarted))
    × AreSaid clients first lines last between after

-- what is printed where a line can't be written, and what was done
abbrev pub IsBrokenOff : Option RestartedLine → Clients → (Deeds → Type 0) → List Line →
    (before after : Option Text) → Type 0
IsBrokenOff restarted clients did lines before after =
    (first : Deeds) × (last : Deeds) × IsNothing first × did last
    × (((last ≡ first) × AppendsBeginning before after (in_lines (opening_texts restarted)))
    ⊎ ((between : Option Text) × Appends before between (in_lines (opening_texts restarted))
    × AreCutOff clients first lines last between after))

-- ---- over a store

-- a script with these handlers was run over a store that has this core in the end, and printed
abbrev pub HaveRun : Option RestartedLine → Core → List HandlerLine → List Line →
    (before after : Option Text) → Type 0
HaveRun restarted core handlers lines before after =
    ArePrinted restarted (known_in (opening_generation restarted) core (named_by handlers))
    (HaveDone core) lines before after

-- the same where a line can't be written
abbrev pub HaveBrokenOff : Option RestartedLine → Core → List HandlerLine → List Line →
    (before after : Option Text) → Type 0
HaveBrokenOff restarted core handlers lines before after =
    IsBrokenOff restarted (known_in (opening_generation restarted) core (named_by handlers))
    (HaveDone core) lines before after
