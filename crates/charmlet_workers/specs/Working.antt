-- What workers commit with their seats.
use Rattle.std.specs.Prelude.{◌≡◌, ℕ, ◌+◌, ◌≤◌, true, List, [], ◌∷◌, ◌++◌, length, if◌then◌else◌, Option, Some, None, is_some, IfSome}
use Rattle.charmlet_model.specs.declared.names.MsgId.{MsgId}
use Rattle.charmlet_leases.specs.Seats.Seats.{HeldSeat}
use Rattle.charmlet_workers.specs.declared.work.Worked.{Worked}
use Rattle.charmlet_workers.specs.Refusals.{is_work_refusal}

-- the seat holds one more id, if a delivery was committed with it
abbrev pub Takes : HeldSeat → HeldSeat → Option MsgId → Type 0
Takes old new None = new ≡ record old { room = new.room }
Takes old new (Some id) = new ≡ record old { ids = old.ids ++ id ∷ []; room = new.room }

-- so many more ids, behind those that it held
pub record HasWorked (old new : HeldSeat) (count : ℕ) : Type 0 where
  pub ids : List MsgId
  pub seat : new ≡ record old { ids = old.ids ++ ids; room = new.room }
  pub counted : length ids ≡ count

-- A worker took at most so many turns. As many ids as it counts are in its seat. A refusal that
-- ended its work is a worker's, and took a turn of its own.
pub record HasServed (old new : HeldSeat) (turns : ℕ) (worked : Worked) : Type 0 where
  pub seat : HasWorked old new worked.count
  pub most : worked.count + (if is_some worked.refusal then 1 else 0) ≤ turns
  pub refusal : IfSome worked.refusal (λ refusal. is_work_refusal refusal ≡ true)
