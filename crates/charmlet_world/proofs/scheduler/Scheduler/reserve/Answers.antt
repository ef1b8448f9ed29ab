use Rattle.std.proofs.Common.{◌∙◌}
use Rattle.charmlet_world.proofs.Tying.{tied_opened, tied_room}
use Rattle.charmlet_world.proofs.scheduler.Scheduler.reserve.Goals as goal

pub invariant_of-self-in_err-reserve : goal.invariant_of-self-in_err-reserve
invariant_of-self-in_err-reserve c =
    let own = c.self.inside in
    let rows = own.elements.entries in
    let opened = tied_opened own.processors rows own.pending own.index c.open.new.self c.self.invariant c.in_ok-open.ensures.same c.in_ok-open.ensures.index c.in_ok-open.ensures.next c.in_ok-open.ensures.ok in
    let e = c.in_err-reserve.ensures in
    tied_room own.processors rows own.pending c.reserve.new.self c.open.new.self c.open.new.self opened e.seq_nos e.messages e.next (λ seq_nos place is. is) c.in_ok-open.ensures.ok (λ i. c.open.new.self.next)

pub invariant_of-self-2 : goal.invariant_of-self-2
invariant_of-self-2 c =
    let own = c.self.inside in
    let rows = own.elements.entries in
    let opened = tied_opened own.processors rows own.pending own.index c.open.new.self c.self.invariant c.in_ok-open.ensures.same c.in_ok-open.ensures.index c.in_ok-open.ensures.next c.in_ok-open.ensures.ok in
    let e = c.in_ok-reserve.ensures in
    let r = c.reserve-2.ensures in
    tied_room own.processors rows own.pending c.reserve.new.self c.open.new.self c.reserve-2.new.self opened e.seq_nos e.messages e.next r.index (r.len ∙ c.in_ok-open.ensures.ok) r.next
