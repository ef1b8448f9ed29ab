-- Steps that write nothing.
use Rattle.std.specs.Prelude.{◌≡◌, false, List, ◌++◌}
use Rattle.charmlet_model.specs.declared.event.Event.{Event}
use Rattle.charmlet_model.specs.Core.{Core}

-- Events are only added, none of them is durable yet, and the file is the same.
pub record Quiet (old new : Core) : Type 0 where
  pub more : List Event
  pub grows : new.history ≡ old.history ++ more
  pub opening : new.opening ≡ old.opening
  pub before : new.before ≡ old.before
  pub durable : new.durable ≡ old.durable
  pub generation : new.generation ≡ old.generation
  pub log_end : new.log_end ≡ old.log_end
  pub going : new.halted ≡ false → old.halted ≡ false
