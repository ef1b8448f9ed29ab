use Rattle.std.proofs.Common.{◌≡◌, Some, subst}
use Rattle.std.specs.Prelude.{is_some}
use Rattle.charmlet_model.specs.Core.{Assign, Core, Refuses, checks, first_refusal}
use Rattle.charmlet_model.specs.Run.{Goes}
use Rattle.charmlet_history.specs.Kept.{plenty}
use Rattle.charmlet_delivery.proofs.Assigning.{is_refused_so}
use Rattle.charmlet_sequencer.specs.Sequencer.{store_of}
use Rattle.charmlet_hub.specs.Hub.{HubShown, store_in}
use Rattle.charmlet_hub.proofs.Busy.{busy_goes}
use Rattle.charmlet_hub.proofs.hub.Hub.assign_refusal.Goals as goal

pub returns-in-Err : goal.returns-in-Err
returns-in-Err g c =
    let core = c.self.inside.sequencer.core in
    let on = c.args.processor in
    let id = c.args.id in
    let refusal = c.in-Err.refusal in
    let refused : first_refusal (checks core plenty (Assign on id)) ≡ Some refusal = subst (λ (k : Core). first_refusal (checks k plenty (Assign on id)) ≡ Some refusal) c.history.ensures c.in-Err.ensures.err in
    let store = store_of c.self.inside.sequencer in
    subst (λ (v : HubShown _). Goes (store_in v) (Assign on id) (Refuses refusal) (store_in v)) c.self.view_is
    (busy_goes (is_some c.self.inside.running) store store (Assign on id) (Refuses refusal) tt (is_refused_so core store.blanks on id refusal refused))
