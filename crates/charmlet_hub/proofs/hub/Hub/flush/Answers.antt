use Rattle.std.proofs.Common.{sym, subst}
use Rattle.std.specs.Prelude.{is_some}
use Rattle.charmlet_model.specs.Core.{Counts, Flush, Stepped}
use Rattle.charmlet_model.specs.Run.{Goes}
use Rattle.charmlet_history.specs.Kept.{counts_or_refused}
use Rattle.charmlet_leases.specs.Passes.Passes.{AreCurrent}
use Rattle.charmlet_leases.proofs.PassesLemmas.OtherSteps.{steps_keep}
use Rattle.charmlet_sequencer.specs.Sequencer.{store_of}
use Rattle.charmlet_hub.specs.Hub.{HubShown, store_in, while_busy}
use Rattle.charmlet_hub.proofs.Hubs.{hub_aside, hub_stepped}
use Rattle.charmlet_hub.proofs.Steps.{step_aside}
use Rattle.charmlet_hub.proofs.Busy.{busy_goes}
use Rattle.charmlet_hub.proofs.Checkpoints.{step_keeps}
use Rattle.charmlet_hub.proofs.hub.Hub.flush.Goals as goal

pub invariant_of-self : goal.invariant_of-self
invariant_of-self g c =
    let h = c.self.inside in
    let new = c.flush.new.self in (
      hub_stepped h.sequencer new (is_some h.running) (is_some h.running) h.seats h.passes c.self.invariant.0 (store_of h.sequencer).blanks (store_of new).blanks Flush
          (counts_or_refused c.flush.result) c.facts.ensures.sound tt tt tt c.flush.ensures.goes,
      c.self.invariant.1,
      λ named. c.flush.ensures.disk.honest.0 (c.self.invariant.2 named),
      step_keeps h.sequencer.core (store_of h.sequencer).blanks Flush (record { answer = counts_or_refused c.flush.result; core = new.core; blanks = (store_of new).blanks }) h.running h.tokens tt c.flush.ensures.goes c.self.invariant.3,
    )

pub invariant_of-self-2 : goal.invariant_of-self-2
invariant_of-self-2 g c =
    let h = c.self.inside in
    let new = c.flush.new.self in
    let told = c.tell.new.self in
    let stepped : Stepped = record { answer = counts_or_refused c.flush.result; core = new.core; blanks = (store_of new).blanks } in (
      hub_aside h.sequencer new (is_some h.running) (is_some h.running) h.seats h.passes c.self.invariant.0 told (step_aside h.sequencer.core (store_of h.sequencer).blanks Flush stepped tt c.flush.ensures.goes)
          (subst (AreCurrent told) c.history.ensures c.tell.ensures.current),
      c.self.invariant.1,
      λ named. c.flush.ensures.disk.honest.0 (c.self.invariant.2 named),
      step_keeps h.sequencer.core (store_of h.sequencer).blanks Flush stepped h.running h.tokens tt c.flush.ensures.goes c.self.invariant.3,
    )

pub tell-requires-clause-current : goal.tell-requires-clause-current
tell-requires-clause-current g c =
    let h = c.self.inside in
    let new = c.flush.new.self in
    subst (AreCurrent h.passes) (sym c.history.ensures)
    (steps_keep h.passes h.sequencer.core (store_of h.sequencer).blanks Flush
    (record { answer = counts_or_refused c.flush.result; core = new.core; blanks = (store_of new).blanks })
    c.facts.ensures.sound tt tt c.flush.ensures.goes c.self.invariant.0.passes)

pub returns-clause-goes : goal.returns-clause-goes
returns-clause-goes g c =
    let h = c.self.inside in
    let new = c.flush.new.self in
    subst (λ (v : HubShown _). Goes (store_in v) Flush (Counts c.in-Ok.count) (while_busy (is_some h.running) (store_of new))) c.self.view_is
    (busy_goes (is_some h.running) (store_of h.sequencer) (store_of new) Flush (Counts c.in-Ok.count) tt c.in-Ok.ensures.goes)
