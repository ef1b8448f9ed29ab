use Rattle.std.proofs.Common.{◌∙◌, sym, ◌≡◌, ◌+◌, ◌≤◌, Some, ap, subst, arith}
use Rattle.std.specs.Prelude.{IfSome, is_some}
use Rattle.charmlet_model.specs.Core.{Commit, Done, assigned_to}
use Rattle.charmlet_model.specs.Run.{Goes}
use Rattle.charmlet_leases.specs.Seats.Seats.{IdList}
use Rattle.charmlet_shelf.specs.Shelf.{View}
use Rattle.charmlet_sequencer.specs.Sequencer.{KeepsObjects, SequencerShown, store_of}
use Rattle.charmlet_sequencer.specs.Shelf.{delivery_in}
use Rattle.charmlet_hub.specs.Checkpoint.{HasRoom, IsNoted}
use Rattle.charmlet_hub.specs.Hub.{HubShown, sequencer_in, store_in, while_busy}
use Rattle.charmlet_hub.proofs.Busy.{busy_goes_to}
use Rattle.charmlet_hub.proofs.Checkpoints.{has_room, noted_keeps}
use Rattle.charmlet_hub.proofs.Hubs.{hub_delivered}
use Rattle.charmlet_hub.proofs.Steps.{committed_delivers, delivery_assigned, done_next, made_before, some_assigned}
use Rattle.charmlet_hub.proofs.hub.Hub.commit_quietly.Goals as goal

pub commit_recorded-requires-clause-running : goal.commit_recorded-requires-clause-running
commit_recorded-requires-clause-running g c κs within =
    let h = c.self.inside in
    let made : delivery_in c.args.locked.now.phase ≡ Some c.in-Some.id = made_before c.args.locked.now c.agree.new.locked c.delivery.result c.in-Some.id c.agree.ensures.locked c.delivery.ensures c.in-Some.is in
    let has = delivery_assigned h.sequencer.core c.args.locked.now.number c.args.locked.now.phase c.in-Some.id c.agree.ensures.due made in
    subst (λ (s : SequencerShown _). IfSome h.running (HasRoom s.core)) (sym c.agree.ensures.sequencer)
    (has_room h.sequencer.core h.running h.tokens (some_assigned h.sequencer.core c.args.locked.now.number c.in-Some.id has) c.self.invariant.3)

pub invariant_of-self-2 : goal.invariant_of-self-2
invariant_of-self-2 g c =
    let h = c.self.inside in
    let new = c.commit_recorded.new.sequencer in
    let more = c.commit.new.self in
    let made : delivery_in c.args.locked.now.phase ≡ Some c.in-Some.id = made_before c.args.locked.now c.agree.new.locked c.delivery.result c.in-Some.id c.agree.ensures.locked c.delivery.ensures c.in-Some.is in
    let has = delivery_assigned h.sequencer.core c.args.locked.now.number c.args.locked.now.phase c.in-Some.id c.agree.ensures.due made in
    let goes : Goes (store_of h.sequencer) (Commit c.args.locked.now.number) Done (store_of new) =
    subst (λ (x : SequencerShown _ × View). Goes (store_of x.0) (Commit x.1.number) Done (store_of new)) (λ i. (c.agree.ensures.sequencer i, c.agree.ensures.locked i)) c.in_default-commit_recorded.ensures.goes in
    let noted = subst (λ (x : SequencerShown _ × View). IsNoted x.0.core x.1.number h.running c.commit_recorded.new.running) (λ i. (c.agree.ensures.sequencer i, c.agree.ensures.locked i)) c.in_default-commit_recorded.ensures.noted in
    let delivers = committed_delivers h.sequencer.core new.core (store_of h.sequencer).blanks (store_of new).blanks c.args.locked.now.number c.in-Some.id has goes in
    let room : h.seats.own.room ≤ more.own.room + 1 = let same = ap (λ (l : IdList). l.room) c.commit.ensures.own in omega arith in (
      hub_delivered h.sequencer new (is_some h.running) (is_some c.commit_recorded.new.running) h.seats h.passes c.self.invariant.0 more (store_of h.sequencer).blanks (store_of new).blanks (Commit c.args.locked.now.number) c.in-Some.id c.facts.ensures.sound tt tt goes
          delivers c.commit.ensures.all room,
      c.self.invariant.1,
      λ named. subst g.D.Disk.honest (sym (c.in_default-commit_recorded.ensures.disk ∙ ap (λ (v : SequencerShown _). v.disk) c.agree.ensures.sequencer)) (c.self.invariant.2 named),
      noted_keeps h.sequencer.core new.core c.args.locked.now.number h.running c.commit_recorded.new.running h.tokens
          (done_next h.sequencer.core new.core (store_of h.sequencer).blanks (store_of new).blanks (Commit c.args.locked.now.number) goes) delivers.one_fewer noted c.self.invariant.3,
    )

pub returns-clause-goes : goal.returns-clause-goes
returns-clause-goes g c =
    let h = c.self.inside in
    let new = c.commit_recorded.new.sequencer in
    let more = c.commit_recorded.new.running in
    subst (λ (v : HubShown _). Goes (store_in v) (Commit c.args.locked.now.number) Done (while_busy (is_some more) (store_of new))) c.self.view_is
    (busy_goes_to (is_some h.running) (is_some more) c.commit_recorded.ensures.busy (store_of h.sequencer) (store_of new) (Commit c.args.locked.now.number) Done tt
    (subst (λ (x : SequencerShown _ × View). Goes (store_of x.0) (Commit x.1.number) Done (store_of new)) (λ i. (c.agree.ensures.sequencer i, c.agree.ensures.locked i)) c.in_default-commit_recorded.ensures.goes))

pub returns-clause-id : goal.returns-clause-id
returns-clause-id g c =
    let h = c.self.inside in
    let made : delivery_in c.args.locked.now.phase ≡ Some c.in-Some.id = made_before c.args.locked.now c.agree.new.locked c.delivery.result c.in-Some.id c.agree.ensures.locked c.delivery.ensures c.in-Some.is in
    let has = delivery_assigned h.sequencer.core c.args.locked.now.number c.args.locked.now.phase c.in-Some.id c.agree.ensures.due made in
    (made, subst (λ (v : HubShown _). assigned_to v.core c.args.locked.now.number ≡ Some c.in-Some.id) c.self.view_is has)

pub returns-clause-objects : goal.returns-clause-objects
returns-clause-objects g c =
    let new = c.commit_recorded.new.sequencer in
    subst (λ (v : HubShown _). KeepsObjects (sequencer_in v) new c.args.locked.now c.commit_recorded.new.locked) c.self.view_is
    (subst (λ (x : SequencerShown _ × View). KeepsObjects x.0 new x.1 c.commit_recorded.new.locked) (λ i. (c.agree.ensures.sequencer i, c.agree.ensures.locked i)) c.commit_recorded.ensures.objects)
