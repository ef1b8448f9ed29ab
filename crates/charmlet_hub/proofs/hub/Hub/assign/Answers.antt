use Rattle.std.proofs.Common.{◌≡◌, ◌≤◌, sym, subst, ◌∙◌, arith}
use Rattle.std.specs.Prelude.{Option, is_some}
use Rattle.charmlet_model.specs.Core.{Assign, Stepped}
use Rattle.charmlet_model.proofs.SoundLemmas.{step_sound}
use Rattle.charmlet_model.specs.Run.{Goes}
use Rattle.charmlet_stock.proofs.Results.{when_ok}
use Rattle.charmlet_delivery.specs.Workplace.{done_or_refused}
use Rattle.charmlet_sequencer.specs.Sequencer.{KeepsObjects, store_of}
use Rattle.charmlet_persist.specs.FuzzyCheckpoint.Checkpoint.{Run}
use Rattle.charmlet_hub.specs.Checkpoint.{IsCheckpointed, roomier}
use Rattle.charmlet_hub.specs.Hub.{HubShown, sequencer_in, store_in, while_busy}
use Rattle.charmlet_hub.proofs.Busy.{busy_goes_to}
use Rattle.charmlet_hub.proofs.Checkpoints.{assigned_keeps}
use Rattle.charmlet_hub.proofs.Steps.{assign_processors, few_assigned}
use Rattle.charmlet_hub.proofs.Hubs.{hub_assigned}
use Rattle.charmlet_hub.proofs.hub.Hub.assign.Goals as goal

pub invariant_of-self-2 : goal.invariant_of-self-2
invariant_of-self-2 g c =
    let h = c.self.inside in
    let new = c.assign.new.self in
    let more = c.reserve_own.new.self in
    let made : c.from-most.result ≤ more.own.room = when_ok (c.from-most.result ≤ more.own.room) c.reserve_own.result (sym c.is_err.ensures.value ∙ c.if-is_err.false) c.reserve_own.ensures.room in
    let most = c.from-most.ensures in
    let named = c.self.invariant.1 in
    let processors = c.facts.ensures.of.processors_are in
    let stepped : Stepped = record { answer = done_or_refused c.assign.result; core = new.core; blanks = (store_of new).blanks } in
    let few = few_assigned new.core (step_sound h.sequencer.core (store_of h.sequencer).blanks (Assign c.args.locked.now.number c.args.id) stepped c.facts.ensures.sound tt c.assign.ensures.goes) in
    let same = assign_processors h.sequencer.core (store_of h.sequencer).blanks c.args.locked.now.number c.args.id stepped c.assign.ensures.goes in
    let roomy : c.reserve.new.running ≡ roomier c.from-most.result h.running =
    when_ok (c.reserve.new.running ≡ roomier c.from-most.result h.running) c.reserve.result (sym c.is_err-2.ensures.value ∙ c.if-is_err-2.false) c.reserve.ensures.ok in (
      hub_assigned h.sequencer new (is_some h.running) (is_some c.reserve.new.running) h.seats h.passes c.self.invariant.0 more (store_of h.sequencer).blanks (store_of new).blanks c.args.locked.now.number c.args.id (done_or_refused c.assign.result)
          c.facts.ensures.sound c.assign.ensures.goes c.reserve_own.ensures.all (omega arith),
      named,
      λ honest. subst g.D.Disk.honest (sym c.assign.ensures.disk) (c.self.invariant.2 honest),
      subst (λ (o : Option Run). IsCheckpointed new.core o h.tokens) (sym roomy)
          (assigned_keeps h.sequencer.core (store_of h.sequencer).blanks c.args.locked.now.number c.args.id stepped c.from-most.result h.running h.tokens (omega arith) c.assign.ensures.goes c.self.invariant.3),
    )

pub returns-clause-goes : goal.returns-clause-goes
returns-clause-goes g c =
    let h = c.self.inside in
    let new = c.assign.new.self in
    let more = c.reserve.new.running in
    subst (λ (v : HubShown _). Goes (store_in v) (Assign c.args.locked.now.number c.args.id) (done_or_refused c.assign.result) (while_busy (is_some more) (store_of new))) c.self.view_is
    (busy_goes_to (is_some h.running) (is_some more) c.reserve.ensures.busy (store_of h.sequencer) (store_of new) (Assign c.args.locked.now.number c.args.id) (done_or_refused c.assign.result) tt c.assign.ensures.goes)

pub returns-clause-objects : goal.returns-clause-objects
returns-clause-objects g c =
    subst (λ (v : HubShown _). KeepsObjects (sequencer_in v) c.assign.new.self c.args.locked.now c.assign.new.locked) c.self.view_is c.assign.ensures.objects
