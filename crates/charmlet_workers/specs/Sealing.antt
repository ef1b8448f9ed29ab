-- What a checkpoint answers.
use Rattle.std.specs.Prelude.{ℕ, ◌^◌, ◌<◌, ◌≤◌, Bool, true, false}
use Rattle.charmlet_model.specs.declared.refusal.Refusal.{Refusal}
use Rattle.charmlet_model.specs.declared.refusal.Refusal.TheVariants as refusals

-- it is later than the generation at which a runtime opened, isn't the first one, and is not past
-- the last one
pub record IsLaterGeneration (opened generation : ℕ) : Type 0 where
  pub later : opened < generation
  pub second : 2 ≤ generation
  pub within : generation ≤ 2 ^ 40

-- a checkpoint is refused for nothing else
abbrev pub is_sealing_refusal : Refusal → Bool
is_sealing_refusal refusals.Memory = true
is_sealing_refusal refusals.Device = true
is_sealing_refusal refusals.Halted = true
is_sealing_refusal refusals.ImageFull = true
is_sealing_refusal refusals.Checkpointing = true
is_sealing_refusal _ = false
