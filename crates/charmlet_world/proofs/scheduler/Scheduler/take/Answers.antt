use Rattle.std.proofs.Common.{◌≡◌, ◌<◌, sym, ap, subst, ◌∙◌}
use Rattle.std.specs.Prelude.{◌==◌}
use Rattle.charmlet_model.specs.declared.TheConstants.{CONSTRUCT}
use Rattle.charmlet_model.specs.World.{without}
use Rattle.charmlet_model.proofs.Fits.{found-id}
use Rattle.charmlet_ready_queue.specs.declared.index.place.QueuePlace.{QueuePlace}
use Rattle.charmlet_ready_queue.specs.declared.index.place.Readiness.{Readiness}
use Rattle.charmlet_ready_queue.specs.Index.Index.{place_by}
use Rattle.charmlet_world.specs.Seen.{IsSlot}
use Rattle.charmlet_world.specs.Tied.{readiness_at, readiness_by, readiness_of}
use Rattle.charmlet_world.proofs.Showing.{element_is, element_risen}
use Rattle.charmlet_world.proofs.Ties.{seq_holds, seq_placed}
use Rattle.charmlet_world.proofs.Tying.{from_given, home_within, tied_left, tied_some}
use Rattle.charmlet_world.proofs.scheduler.Scheduler.take.Goals as goal

pub take-requires-2-clause-on : goal.take-requires-2-clause-on
take-requires-2-clause-on c =
    let stood : c.readiness_at-readiness.result ≡ readiness_of c.self.inside.processors c.in-Some.taken.message.to c.at-element.result = c.readiness_at-readiness.ensures ∙ ap (λ h. readiness_at h c.at-element.result) c.home_of-at_home.ensures in
    let own = c.self.inside in
    let p = own.processors in
    let rows = own.elements.entries in
    let m = c.in-Some.taken.message in
    let slot = from_given c.args.self.now _ c.self.view_is c.args.id m c.in-Some.ensures.taken (λ d m. IsSlot d.rows c.args.slot m.to) c.requires.receiver in
    let readiness : c.readiness_at-readiness.result ≡ readiness_by p rows m.to = stood ∙ ap (readiness_of p m.to) (element_is rows c.args.slot m.to c.at-element.result slot c.at-element.ensures ∙ sym (element_risen m.to rows)) in
    let len = tied_some p rows own.pending own.index c.in-Some.taken.seq m c.self.invariant c.in-Some.ensures.seq in
    subst (λ n. c.place.result.on < n) (sym len) (subst (λ (a : QueuePlace). a.on < p) (sym c.place.ensures) (subst (λ (s : Readiness). s.on < p) (sym readiness) (c.self.invariant.within m.to)))

pub take-requires-2-clause-home : goal.take-requires-2-clause-home
take-requires-2-clause-home c =
    let stood : c.readiness_at-readiness.result ≡ readiness_of c.self.inside.processors c.in-Some.taken.message.to c.at-element.result = c.readiness_at-readiness.ensures ∙ ap (λ h. readiness_at h c.at-element.result) c.home_of-at_home.ensures in
    let own = c.self.inside in
    let p = own.processors in
    let m = c.in-Some.taken.message in
    let len = tied_some p own.elements.entries own.pending own.index c.in-Some.taken.seq m c.self.invariant c.in-Some.ensures.seq in
    subst (λ n. c.place.result.home < n) (sym len) (subst (λ (a : QueuePlace). a.home < p) (sym c.place.ensures) (subst (λ (s : Readiness). s.home < p) (sym stood) (home_within p c.self.invariant.some_processors m.to)))

pub take-requires-2-clause-held : goal.take-requires-2-clause-held
take-requires-2-clause-held c =
    let stood : c.readiness_at-readiness.result ≡ readiness_of c.self.inside.processors c.in-Some.taken.message.to c.at-element.result = c.readiness_at-readiness.ensures ∙ ap (λ h. readiness_at h c.at-element.result) c.home_of-at_home.ensures in
    let own = c.self.inside in
    let p = own.processors in
    let rows = own.elements.entries in
    let w = own.pending in
    let h = c.self.invariant in
    let m = c.in-Some.taken.message in
    let n = c.in-Some.taken.seq in
    let slot = from_given c.args.self.now _ c.self.view_is c.args.id m c.in-Some.ensures.taken (λ d m. IsSlot d.rows c.args.slot m.to) c.requires.receiver in
    let readiness : c.readiness_at-readiness.result ≡ readiness_by p rows m.to = stood ∙ ap (readiness_of p m.to) (element_is rows c.args.slot m.to c.at-element.result slot c.at-element.ensures ∙ sym (element_risen m.to rows)) in
    let at : c.place.result ≡ place_by (readiness_by p rows m.to) (m.entry == CONSTRUCT) = c.place.ensures ∙ ap (λ (s : Readiness). place_by s (m.entry == CONSTRUCT)) readiness in
    (w.seq_nos, h.place, h.index, h.climbs, seq_holds n w.seq_nos w.messages m c.in-Some.ensures.seq, seq_placed (readiness_by p rows) h.place n w.seq_nos w.messages m h.are c.in-Some.ensures.seq ∙ sym at)

pub invariant_of-self : goal.invariant_of-self
invariant_of-self c =
    let stood : c.readiness_at-readiness.result ≡ readiness_of c.self.inside.processors c.in-Some.taken.message.to c.at-element.result = c.readiness_at-readiness.ensures ∙ ap (λ h. readiness_at h c.at-element.result) c.home_of-at_home.ensures in
    let own = c.self.inside in
    let p = own.processors in
    let rows = own.elements.entries in
    let w = own.pending in
    let m = c.in-Some.taken.message in
    let n = c.in-Some.taken.seq in
    let e = c.in-Some.ensures in
    let slot = from_given c.args.self.now _ c.self.view_is c.args.id m e.taken (λ d m. IsSlot d.rows c.args.slot m.to) c.requires.receiver in
    let readiness : c.readiness_at-readiness.result ≡ readiness_by p rows m.to = stood ∙ ap (readiness_of p m.to) (element_is rows c.args.slot m.to c.at-element.result slot c.at-element.ensures ∙ sym (element_risen m.to rows)) in
    let at : c.place.result ≡ place_by (readiness_by p rows m.to) (m.entry == CONSTRUCT) = c.place.ensures ∙ ap (λ (s : Readiness). place_by s (m.entry == CONSTRUCT)) readiness in
    tied_left p rows w c.take.new.self own.index c.take-2.new.self n m c.self.invariant e.distinct e.seq e.seq_nos
    (e.left ∙ ap (λ id. without id w.messages) (found-id c.args.id w.messages m (sym e.taken)))
    e.next
    (λ seq_nos place is climbs held here. c.take-2.ensures.index seq_nos place is climbs held (here ∙ sym at))
    c.take-2.ensures.len c.take-2.ensures.next c.take-2.ensures.headroom
