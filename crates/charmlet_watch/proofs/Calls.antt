-- The moment after one more call, and steps as calls.
use Rattle.std.proofs.Common.{◌≡◌, ℕ, List, [], ◌∷◌, ◌++◌, sym, subst}
use Rattle.charmlet_model.specs.Core.{CoreAnswer, CoreStep}
use Rattle.charmlet_model.specs.Run.{Goes}
use Rattle.charmlet_hub.specs.Hub.{HubShown, store_in}
use Rattle.charmlet_watch.specs.Log.{Entry, entry, last_of}
use Rattle.charmlet_watch.proofs.Logs.{last_of-snoc}
use Rattle.charmlet_watch.specs.Moments.{Call, CallGoes, Moment, Steps, moment_of, store_at}

pub last_of_snoc : (start : Moment) (xs : List (Entry Moment Call)) (by : ℕ) (call : Call) (after : Moment) → last_of start (xs ++ entry by call after ∷ []) ≡ after
last_of_snoc start xs by call after = last_of-snoc start xs by call after

-- a step of the hub goes on from the last moment
pub goes_at : {D : Type 0} (last : Moment) (old new : HubShown D) (step : CoreStep) (answer : CoreAnswer) → last ≡ moment_of old → Goes (store_in old) step answer (store_in new) → CallGoes last (Steps step answer) (moment_of new)
goes_at last old new step answer same goes = subst (λ (m : Moment). Goes (store_at m) step answer (store_in new)) (sym same) goes
