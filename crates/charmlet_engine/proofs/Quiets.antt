-- Steps that write nothing.
use Rattle.std.proofs.Common.{◌≡◌, ◌≢◌, inl, inr, ℕ, true, Result, Ok, Err, refl}
use Rattle.charmlet_model.specs.declared.names.MsgId.{MsgId}
use Rattle.charmlet_model.specs.declared.refusal.Refusal.{Refusal}
use Rattle.charmlet_model.specs.declared.refusal.Refusal.TheVariants as refusals
use Rattle.charmlet_model.specs.declared.told.Told.{Told}
use Rattle.charmlet_model.specs.Core as core
use Rattle.charmlet_model.specs.Core.{Core, CoreStep, CoreAnswer, Refuses}
use Rattle.charmlet_model.specs.CoreLaws.{IsQuiet}
use Rattle.charmlet_model.specs.Run.{Goes, StoreView}
use Rattle.charmlet_model.proofs.DeviceLemmas.{only_writes_fail}
use Rattle.charmlet_history.specs.Kept.{told_or_refused}
use Rattle.charmlet_persist.specs.Writes.Quiet.{Quiet}
use Rattle.charmlet_persist.proofs.WritesLemmas.Quietness.{quiet_after, quiet_step}
use Rattle.charmlet_delivery.specs.UnderWay.{Ends}
use Rattle.charmlet_engine.specs.Engine.{client_answer}
use Rattle.charmlet_engine.specs.Outcomes.{is_no_fault, is_still, not_device}

-- one step of the core
pub goes_quiet : (store next : StoreView) (step : CoreStep) (answer : CoreAnswer) → IsQuiet step → Goes store step answer next → Quiet store.core next.core
goes_quiet store next step answer quiet goes = quiet_step store.core store.blanks step (record { answer = answer; core = next.core; blanks = next.blanks }) quiet goes

-- a delivery, however it ends
pub ends_quiet : {T : Type 0} (store next : StoreView) (processor : ℕ) (id : MsgId) (result : Result T Refusal) → Ends store processor id result next → Quiet store.core next.core
ends_quiet store next processor id (Ok x) ends =
    quiet_after store.core ends.0.core next.core (goes_quiet store ends.0 (core.Assign processor id) _ tt ends.1) (goes_quiet ends.0 next (core.Commit processor) _ tt ends.2)
ends_quiet store next processor id (Err refusal) ends = elim ends [
  | inl refused ↦ goes_quiet store next (core.Assign processor id) _ tt refused
  | inr freed ↦ quiet_after store.core freed.1.0.core next.core (goes_quiet store freed.1.0 (core.Assign processor id) _ tt freed.1.1) (goes_quiet freed.1.0 next (core.Release processor) _ tt freed.1.2)
]

other : (refusal : Refusal) → Refuses refusal ≢ Refuses refusals.Device → not_device refusal ≡ true
other refusals.Device apart = absurd (apart refl)
other _ apart = refl

-- none of them is refused for the device
pub goes_on : (store next : StoreView) (step : CoreStep) (refusal : Refusal) → IsQuiet step → Goes store step (Refuses refusal) next → not_device refusal ≡ true
goes_on store next step refusal quiet goes = other refusal (only_writes_fail store.core store.blanks step (record { answer = Refuses refusal; core = next.core; blanks = next.blanks }) quiet goes)

pub told_goes_on : (store next : StoreView) (step : CoreStep) (told : Result Told Refusal) → IsQuiet step → Goes store step (told_or_refused told) next → is_no_fault (client_answer told) ≡ true
told_goes_on store next step (Ok told) quiet goes = refl
told_goes_on store next step (Err refusal) quiet goes = goes_on store next step refusal quiet goes

pub told_still : (store next : StoreView) (step : CoreStep) (told : Result Told Refusal) → IsQuiet step → Goes store step (told_or_refused told) next → is_still (client_answer told) ≡ true
told_still store next step (Ok told) quiet goes = refl
told_still store next step (Err refusal) quiet goes = goes_on store next step refusal quiet goes
