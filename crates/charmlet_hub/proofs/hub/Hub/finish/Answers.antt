use Rattle.std.proofs.Common.{ap, ◌∙◌, sym, ◌≡◌, ◌+◌, ◌≤◌, Some, subst, arith}
use Rattle.std.specs.Prelude.{IfSome, is_some}
use Rattle.charmlet_model.specs.Core.{Finish, Done, assigned_to}
use Rattle.charmlet_model.specs.Run.{Goes}
use Rattle.charmlet_shelf.specs.Shelf.{View}
use Rattle.charmlet_sequencer.specs.Sequencer.{KeepsObjects, SequencerShown, store_of}
use Rattle.charmlet_sequencer.specs.Shelf.{delivery_in}
use Rattle.charmlet_hub.specs.Checkpoint.{HasRoom, IsNoted}
use Rattle.charmlet_hub.specs.Hub.{HubShown, sequencer_in, store_in, while_busy}
use Rattle.charmlet_hub.proofs.Busy.{busy_goes_to}
use Rattle.charmlet_hub.proofs.Checkpoints.{has_room, noted_keeps}
use Rattle.charmlet_hub.proofs.Hubs.{hub_delivered}
use Rattle.charmlet_hub.proofs.Steps.{finished_delivers, delivery_assigned, done_next, made_before, some_assigned}
use Rattle.charmlet_hub.proofs.hub.Hub.finish.Goals as goal

pub record_delivery-requires-clause-running : goal.record_delivery-requires-clause-running
record_delivery-requires-clause-running g c κs within =
    let h = c.self.inside in
    let made : delivery_in c.args.locked.now.phase ≡ Some c.in-Some.id = made_before c.args.locked.now c.agree.new.locked c.delivery.result c.in-Some.id c.agree.ensures.locked c.delivery.ensures c.in-Some.is in
    let has = delivery_assigned h.sequencer.core c.args.locked.now.number c.args.locked.now.phase c.in-Some.id c.agree.ensures.due made in
    subst (λ (s : SequencerShown _). IfSome h.running (HasRoom s.core)) (sym c.agree.ensures.sequencer)
    (has_room h.sequencer.core h.running h.tokens (some_assigned h.sequencer.core c.args.locked.now.number c.in-Some.id has) c.self.invariant.3)

pub invariant_of-self : goal.invariant_of-self
invariant_of-self g c =
    let h = c.self.inside in
    let new = c.finish.new.self in
    let more = c.commit_without_seat.new.self in
    let seq = c.record_delivery.ensures.sequencer ∙ c.agree.ensures.sequencer in
    let shelf = c.record_delivery.ensures.locked ∙ c.agree.ensures.locked in
    let made : delivery_in c.args.locked.now.phase ≡ Some c.in-Some.id = made_before c.args.locked.now c.agree.new.locked c.delivery.result c.in-Some.id c.agree.ensures.locked c.delivery.ensures c.in-Some.is in
    let has = delivery_assigned h.sequencer.core c.args.locked.now.number c.args.locked.now.phase c.in-Some.id c.agree.ensures.due made in
    let goes : Goes (store_of h.sequencer) (Finish c.args.locked.now.number) Done (store_of new) =
    subst (λ (x : SequencerShown _ × View). Goes (store_of x.0) (Finish x.1.number) Done (store_of new)) (λ i. (seq i, shelf i)) c.finish.ensures.goes in
    let noted = subst (λ (x : SequencerShown _ × View). IsNoted x.0.core x.1.number h.running c.record_delivery.new.running) (λ i. (c.agree.ensures.sequencer i, c.agree.ensures.locked i)) c.record_delivery.ensures.noted in
    let delivers = finished_delivers h.sequencer.core new.core (store_of h.sequencer).blanks (store_of new).blanks c.args.locked.now.number c.in-Some.id has goes in
    let room : h.seats.own.room ≤ more.own.room + 1 = let used = c.commit_without_seat.ensures.room in omega arith in (
      hub_delivered h.sequencer new (is_some h.running) (is_some c.record_delivery.new.running) h.seats h.passes c.self.invariant.0 more (store_of h.sequencer).blanks (store_of new).blanks (Finish c.args.locked.now.number) c.in-Some.id c.facts.ensures.sound tt tt goes
          delivers c.commit_without_seat.ensures.all room,
      c.self.invariant.1,
      λ named. subst g.D.Disk.honest (sym (c.finish.ensures.disk ∙ ap (λ (v : SequencerShown _). v.disk) seq)) (c.self.invariant.2 named),
      noted_keeps h.sequencer.core new.core c.args.locked.now.number h.running c.record_delivery.new.running h.tokens
          (done_next h.sequencer.core new.core (store_of h.sequencer).blanks (store_of new).blanks (Finish c.args.locked.now.number) goes) delivers.one_fewer noted c.self.invariant.3,
    )

pub returns-clause-goes : goal.returns-clause-goes
returns-clause-goes g c =
    let h = c.self.inside in
    let new = c.finish.new.self in
    let more = c.record_delivery.new.running in
    let seq = c.record_delivery.ensures.sequencer ∙ c.agree.ensures.sequencer in
    let shelf = c.record_delivery.ensures.locked ∙ c.agree.ensures.locked in
    subst (λ (v : HubShown _). Goes (store_in v) (Finish c.args.locked.now.number) Done (while_busy (is_some more) (store_of new))) c.self.view_is
    (busy_goes_to (is_some h.running) (is_some more) c.record_delivery.ensures.busy (store_of h.sequencer) (store_of new) (Finish c.args.locked.now.number) Done tt
    (subst (λ (x : SequencerShown _ × View). Goes (store_of x.0) (Finish x.1.number) Done (store_of new)) (λ i. (seq i, shelf i)) c.finish.ensures.goes))

pub returns-clause-id : goal.returns-clause-id
returns-clause-id g c =
    let h = c.self.inside in
    let made : delivery_in c.args.locked.now.phase ≡ Some c.in-Some.id = made_before c.args.locked.now c.agree.new.locked c.delivery.result c.in-Some.id c.agree.ensures.locked c.delivery.ensures c.in-Some.is in
    let has = delivery_assigned h.sequencer.core c.args.locked.now.number c.args.locked.now.phase c.in-Some.id c.agree.ensures.due made in
    (made, subst (λ (v : HubShown _). assigned_to v.core c.args.locked.now.number ≡ Some c.in-Some.id) c.self.view_is has)

pub returns-clause-objects : goal.returns-clause-objects
returns-clause-objects g c =
    let new = c.finish.new.self in
    let seq = c.record_delivery.ensures.sequencer ∙ c.agree.ensures.sequencer in
    let shelf = c.record_delivery.ensures.locked ∙ c.agree.ensures.locked in
    subst (λ (v : HubShown _). KeepsObjects (sequencer_in v) new c.args.locked.now c.finish.new.locked) c.self.view_is
    (subst (λ (x : SequencerShown _ × View). KeepsObjects x.0 new x.1 c.finish.new.locked) (λ i. (seq i, shelf i)) c.finish.ensures.objects)
