use Rattle.std.proofs.Common.{sym, subst}
use Rattle.std.specs.Prelude.{is_some}
use Rattle.charmlet_model.specs.Core.{Done, Release}
use Rattle.charmlet_model.specs.Run.{Goes}
use Rattle.charmlet_sequencer.specs.Sequencer.{KeepsObjects, store_of}
use Rattle.charmlet_hub.specs.Hub.{HubShown, sequencer_in, store_in, while_busy}
use Rattle.charmlet_hub.proofs.Hubs.{hub_stepped}
use Rattle.charmlet_hub.proofs.Busy.{busy_goes}
use Rattle.charmlet_hub.proofs.Checkpoints.{step_keeps}
use Rattle.charmlet_hub.proofs.hub.Hub.release.Goals as goal

pub invariant_of-self : goal.invariant_of-self
invariant_of-self g c =
    let h = c.self.inside in
    let new = c.release.new.self in (
      hub_stepped h.sequencer new (is_some h.running) (is_some h.running) h.seats h.passes c.self.invariant.0 (store_of h.sequencer).blanks (store_of new).blanks (Release c.args.locked.now.number) Done c.facts.ensures.sound tt tt tt c.release.ensures.goes,
      c.self.invariant.1,
      λ named. subst g.D.Disk.honest (sym c.release.ensures.disk) (c.self.invariant.2 named),
      step_keeps h.sequencer.core (store_of h.sequencer).blanks (Release c.args.locked.now.number) (record { answer = Done; core = new.core; blanks = (store_of new).blanks }) h.running h.tokens tt c.release.ensures.goes c.self.invariant.3,
    )

pub returns-clause-goes : goal.returns-clause-goes
returns-clause-goes g c =
    let h = c.self.inside in
    let new = c.release.new.self in
    subst (λ (v : HubShown _). Goes (store_in v) (Release c.args.locked.now.number) Done (while_busy (is_some h.running) (store_of new))) c.self.view_is
    (busy_goes (is_some h.running) (store_of h.sequencer) (store_of new) (Release c.args.locked.now.number) Done tt c.release.ensures.goes)

pub returns-clause-objects : goal.returns-clause-objects
returns-clause-objects g c =
    subst (λ (v : HubShown _). KeepsObjects (sequencer_in v) c.release.new.self c.args.locked.now c.release.new.locked) c.self.view_is c.release.ensures.objects
