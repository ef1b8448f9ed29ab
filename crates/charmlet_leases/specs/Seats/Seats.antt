-- What seats hold, and what their authority has of them.
use Rattle.std.specs.Prelude.{ℕ, ◌==◌, Bool, List, [], ◌∷◌, Option, Some, None, if◌then◌else◌}
use Rattle.std.specs.List.{list_any}
use Rattle.charmlet_model.specs.declared.names.MsgId.{MsgId}
use Rattle.charmlet_model.specs.declared.refusal.Refusal.{Refusal}
use Rattle.charmlet_model.specs.declared.refusal.Refusal.TheVariants as refusals
use Rattle.charmlet_leases.specs.Seats.Woven.{IsWoven}

-- ids in order, and the room for more
pub record IdList : Type 0 where
  pub items : List MsgId
  pub room : ℕ

-- A seat has its place among those that were lent, and its processor. It holds the ids of the
-- deliveries that were committed with it, and has room for more.
pub record HeldSeat : Type 0 where
  pub place : ℕ
  pub processor : ℕ
  pub ids : List MsgId
  pub room : ℕ

-- The authority has the processors of the seats that are out, in the order in which these were
-- lent, and the ids that each of them holds, by its place among them: none any more once it was
-- taken in. The table's own ids are those of the deliveries that were committed without a seat.
pub record Seats : Type 0 where
  pub out : List ℕ
  pub own : IdList
  pub lists : List (Option (List MsgId))

-- the lists of the seats that are out
abbrev pub lists_out : List (Option (List MsgId)) → List (List MsgId)
lists_out [] = []
lists_out (None ∷ lists) = lists_out lists
lists_out (Some ids ∷ lists) = ids ∷ lists_out lists

-- the table's own ids and those of the seats that are out are woven into these
abbrev pub HaveAll : Seats → List MsgId → Type 0
HaveAll seats deliveries = IsWoven (seats.own.items ∷ lists_out seats.lists) deliveries

-- the processor's seat is out
abbrev pub is_out : ℕ → List ℕ → Bool
is_out processor out = list_any (λ other. other == processor) out

-- why a seat isn't lent
abbrev pub lending_refusal : ℕ → List ℕ → Refusal
lending_refusal processor out = if is_out processor out then refusals.PassOut else refusals.Memory
