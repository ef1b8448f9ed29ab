use Rattle.std.proofs.Common.{◌≡◌, ◌+◌, ◌<◌, ◌++◌, [], ◌∷◌, sym, ap, subst, ◌∙◌, arith}
use Rattle.std.specs.Prelude.{◌==◌}
use Rattle.charmlet_model.specs.declared.TheConstants.{CONSTRUCT}
use Rattle.charmlet_ready_queue.specs.declared.index.place.QueuePlace.{QueuePlace}
use Rattle.charmlet_ready_queue.specs.declared.index.place.Readiness.{Readiness}
use Rattle.charmlet_ready_queue.specs.Index.Index.{IsIndexOf, moved, place_by}
use Rattle.charmlet_world.specs.Standing.{Standing}
use Rattle.charmlet_world.specs.Tied.{Scheduled, IsTied, readiness_by, readiness_of}
use Rattle.charmlet_world.proofs.Showing.{element_risen}
use Rattle.charmlet_world.proofs.Tying.{smaller_second, tied_pushed}
use Rattle.charmlet_world.proofs.scheduler.Scheduler.push.Goals as goal

pub push-seq-requires-clause-on : goal.push-seq-requires-clause-on
push-seq-requires-clause-on c =
    let own = c.self.inside in
    let p = own.processors in
    let rows = own.elements.entries in
    let m = c.args.message in
    let room = subst (λ (d : Scheduled). 0 < d.room) (sym c.self.view_is) c.requires.room in
    let head = smaller_second own.pending.room own.index.headroom in
    let len = c.self.invariant.opened (omega (arith, room, head)) in
    let readiness : c.readiness_of-readiness.result ≡ readiness_by p rows m.to = c.readiness_of-readiness.ensures ∙ ap (readiness_of p m.to) (c.expect-element.ensures.element ∙ sym (element_risen m.to rows)) in
    subst (λ n. c.place.result.on < n) (sym len) (subst (λ (a : QueuePlace). a.on < p) (sym c.place.ensures) (subst (λ (s : Readiness). s.on < p) (sym readiness) (c.self.invariant.within m.to)))

pub invariant_of-self : goal.invariant_of-self
invariant_of-self c =
    let own = c.self.inside in
    let p = own.processors in
    let rows = own.elements.entries in
    let m = c.args.message in
    let n = own.index.next in
    let readiness : c.readiness_of-readiness.result ≡ readiness_by p rows m.to = c.readiness_of-readiness.ensures ∙ ap (readiness_of p m.to) (c.expect-element.ensures.element ∙ sym (element_risen m.to rows)) in
    let at : c.place.result ≡ place_by (readiness_by p rows m.to) (m.entry == CONSTRUCT) = c.place.ensures ∙ ap (λ (s : Readiness). place_by s (m.entry == CONSTRUCT)) readiness in
    let number = c.push-seq.ensures.number in
    subst (λ (e : Standing). IsTied p e.entries c.push_to.new.self c.push-seq.new.self) (sym c.expect-element.ensures.same) (tied_pushed p rows own.pending c.push_to.new.self own.index c.push-seq.new.self m c.self.invariant
    (c.push_to.ensures.seq_nos ∙ ap (λ k. own.pending.seq_nos ++ k ∷ []) number)
    c.push_to.ensures.messages
    (c.push_to.ensures.next ∙ ap (λ k. k + 1) number)
    (λ seq_nos place is climbs below. subst (λ (a : QueuePlace). IsIndexOf (seq_nos ++ n ∷ []) (moved n a place) c.push-seq.new.self.lists) at (c.push-seq.ensures.index seq_nos place is climbs below))
    c.push-seq.ensures.len c.push-seq.ensures.next c.push-seq.ensures.headroom)
