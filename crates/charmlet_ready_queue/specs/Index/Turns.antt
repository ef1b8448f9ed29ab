-- What one call makes of the lists of one processor.
use Rattle.std.specs.Prelude.{◌≡◌, ℕ, ◌+◌, Bool, not, ◌&&◌, ◌==◌, if◌then◌else◌}
use Rattle.charmlet_ready_queue.specs.SeqNos.SeqNos.{with_number, without_number}
use Rattle.charmlet_ready_queue.specs.declared.index.lists.Lists.{Lists}

-- a sequence number leaves a list of this processor
pub record IsTaken (n on : ℕ) (is_ready : Bool) (p : ℕ) (old new : Lists) : Type 0 where
  pub ready : new.ready.seq_nos ≡ (if (on == p) && is_ready
      then without_number n old.ready.seq_nos else old.ready.seq_nos)
  pub waiting : new.waiting.seq_nos ≡ (if (on == p) && not is_ready
      then without_number n old.waiting.seq_nos else old.waiting.seq_nos)
  pub away : new.away ≡ old.away
  pub ready_capacity : new.ready.capacity ≡ old.ready.capacity
  pub waiting_capacity : new.waiting.capacity ≡ old.waiting.capacity

-- it comes to a list of this processor
pub record IsPut (n on : ℕ) (is_ready : Bool) (p : ℕ) (old new : Lists) : Type 0 where
  pub ready : new.ready.seq_nos ≡ (if (on == p) && is_ready
      then with_number n old.ready.seq_nos else old.ready.seq_nos)
  pub waiting : new.waiting.seq_nos ≡ (if (on == p) && not is_ready
      then with_number n old.waiting.seq_nos else old.waiting.seq_nos)
  pub away : new.away ≡ old.away
  pub ready_capacity : new.ready.capacity ≡ old.ready.capacity
  pub waiting_capacity : new.waiting.capacity ≡ old.waiting.capacity

-- one fewer is away from this processor
pub record IsBack (home p : ℕ) (old new : Lists) : Type 0 where
  pub ready : new.ready ≡ old.ready
  pub waiting : new.waiting ≡ old.waiting
  pub away : new.away + (if home == p then 1 else 0) ≡ old.away

-- one more is
pub record IsAway (home p : ℕ) (old new : Lists) : Type 0 where
  pub ready : new.ready ≡ old.ready
  pub waiting : new.waiting ≡ old.waiting
  pub away : new.away ≡ old.away + (if home == p then 1 else 0)
