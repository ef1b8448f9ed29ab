-- Which refusals the calls of a runtime answer: no other ones, whatever others do meanwhile. And
-- what the caller knows of their causes.
use Rattle.std.specs.Prelude.{◌≡◌, ℕ, ◌+◌, ◌<◌, ◌≤◌, Bool, true, false, List, length, None, Some, option_map}
use Rattle.charmlet_model.specs.declared.names.Elem.{Elem}
use Rattle.charmlet_model.specs.declared.refusal.Refusal.{Refusal}
use Rattle.charmlet_model.specs.declared.refusal.Refusal.TheVariants as refusals
use Rattle.charmlet_model.specs.KindVersion.{kind_of_version}
use Rattle.charmlet_model.specs.Reaction.{greatest}
use Rattle.charmlet_model.specs.World.{World, version_of_array}
use Rattle.charmlet_history.specs.declared.request.Request.{Request}
use Rattle.charmlet_leases.specs.Passes.Passes.{HeldPass}
use Rattle.charmlet_workers.specs.Runtime.{RuntimeShown}

-- that of a pass or of a seat that is lent
abbrev pub is_lending_refusal : Refusal → Bool
is_lending_refusal refusals.Memory = true
is_lending_refusal refusals.PassOut = true
is_lending_refusal _ = false

-- a request's
abbrev pub is_request_refusal : Refusal → Bool
is_request_refusal refusals.Memory = true
is_request_refusal refusals.Halted = true
is_request_refusal refusals.NoArray = true
is_request_refusal (refusals.OutOfTurn wanted) = true
is_request_refusal refusals.Waiting = true
is_request_refusal refusals.TooLong = true
is_request_refusal refusals.HistoryFull = true
is_request_refusal refusals.ClientsFull = true
is_request_refusal _ = false

-- a status's
abbrev pub is_status_refusal : Refusal → Bool
is_status_refusal refusals.Memory = true
is_status_refusal refusals.Halted = true
is_status_refusal _ = false

-- a flush's
abbrev pub is_flush_refusal : Refusal → Bool
is_flush_refusal refusals.Device = true
is_flush_refusal refusals.Halted = true
is_flush_refusal refusals.LogFull = true
is_flush_refusal _ = false

-- a move's
abbrev pub is_move_refusal : Refusal → Bool
is_move_refusal refusals.Memory = true
is_move_refusal refusals.Halted = true
is_move_refusal refusals.Absent = true
is_move_refusal (refusals.NoBlank kind) = true
is_move_refusal refusals.BadPes = true
is_move_refusal refusals.Checkpointing = true
is_move_refusal _ = false

-- a worker's: those of a commit, and of an assignment of a message that can be delivered on its
-- processor, where none is assigned
abbrev pub is_work_refusal : Refusal → Bool
is_work_refusal refusals.Memory = true
is_work_refusal refusals.Halted = true
is_work_refusal (refusals.NoBlank kind) = true
is_work_refusal refusals.HistoryFull = true
is_work_refusal _ = false

-- ---- repeats

-- the number is one of the last eight up to this last one, and isn't 0
abbrev pub IsRecent : (last number : ℕ) → Type 0
IsRecent last number = (0 < number) × (number ≤ last) × (last < number + 8)

-- ---- causes

-- What the arrays tell of why a request with this number, for this element and with these words, is
-- refused to a client whose last number is this one, and was the first one when the store opened.
-- One that is out of turn isn't the next one, as long as there are more; nor a repeat of the last,
-- or of one of the last eight that was accepted since. For all else it is the next one that is
-- refused: there is no such array, or it has too many words; the client waits only after eight
-- requests, and is one too many only before its first.
abbrev pub IsCauseAfter : World → (first last number : ℕ) → Elem → List ℕ → Refusal → Type 0
IsCauseAfter opening first last number to words refusals.Memory = Unit {0}
IsCauseAfter opening first last number to words refusals.Halted = Unit {0}
IsCauseAfter opening first last number to words (refusals.OutOfTurn wanted) =
    (number ≡ last + 1 → greatest ≤ last) × (number ≡ last → number ≡ 0)
    × (first < number → ¬ IsRecent last number)
IsCauseAfter opening first last number to words refusals.Waiting = (number ≡ last + 1)
    × (8 ≤ last)
IsCauseAfter opening first last number to words refusals.NoArray = (number ≡ last + 1)
    × (version_of_array opening to.array ≡ None)
IsCauseAfter opening first last number to words refusals.TooLong = (number ≡ last + 1)
    × (512 < length words)
IsCauseAfter opening first last number to words refusals.ClientsFull = (number ≡ last + 1)
    × (last ≡ 0)
IsCauseAfter opening first last number to words refusals.HistoryFull = number ≡ last + 1
IsCauseAfter opening first last number to words _ = ⊥

-- what is known of it by the client's pass
abbrev pub IsRequestCause : World → HeldPass → Request → Refusal → Type 0
IsRequestCause opening held request = IsCauseAfter opening held.pass.lent_at held.pass.last
    request.number request.to request.words.now

-- What is known by its arguments of why a move is refused: there is no such processor, or a blank
-- of the array's own kind is lacking.
abbrev pub IsMoveCause : RuntimeShown → Elem → ℕ → Refusal → Type 0
IsMoveCause shown x processor refusals.Memory = Unit {0}
IsMoveCause shown x processor refusals.Halted = Unit {0}
IsMoveCause shown x processor refusals.Absent = Unit {0}
IsMoveCause shown x processor refusals.Checkpointing = Unit {0}
IsMoveCause shown x processor refusals.BadPes = shown.processors ≤ processor
IsMoveCause shown x processor (refusals.NoBlank kind) =
    option_map kind_of_version (version_of_array shown.opening x.array) ≡ Some kind
IsMoveCause shown x processor _ = ⊥
