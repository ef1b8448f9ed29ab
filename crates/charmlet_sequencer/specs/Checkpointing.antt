-- The end of a checkpoint that runs while others work.
use Rattle.std.specs.Prelude.{◌≡◌, ℕ, ◌<◌, ◌^◌, true, false}
use Rattle.charmlet_model.specs.declared.refusal.Refusal.{Refusal}
use Rattle.charmlet_model.specs.declared.refusal.Refusal.TheVariants as refusals
use Rattle.charmlet_model.specs.Core.{Core}
use Rattle.charmlet_history.specs.Kept.{sealed_at}

-- All events are durable by an image of the next generation, whose half has, with the closed gate
-- of its empty log, at most 2^31 bytes.
abbrev pub IsSealedCore : (old new : Core) → Type 0
IsSealedCore old new = (log_end : ℕ) × (log_end < 2 ^ 31) × (new ≡ sealed_at old log_end)

-- why its image isn't made durable: the store is halted; or it isn't, and memory is lacking, a
-- limit would be passed, or the device fails
abbrev pub IsSealRefusal : Core → Refusal → Type 0
IsSealRefusal core refusals.Halted = core.halted ≡ true
IsSealRefusal core refusals.Memory = core.halted ≡ false
IsSealRefusal core refusals.ImageFull = core.halted ≡ false
IsSealRefusal core refusals.Device = core.halted ≡ false
IsSealRefusal core _ = ⊥
