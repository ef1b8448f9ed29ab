use Rattle.std.proofs.Common.{ℕ, ◌≡◌, ◌<◌, sym, ap, subst, ◌∙◌, arith}
use Rattle.std.specs.Prelude.{Some, None, IfSome, option_map}
use Rattle.charmlet_model.specs.declared.message.Message.{Message}
use Rattle.charmlet_model.specs.declared.names.MsgId.{MsgId}
use Rattle.charmlet_world.specs.Seen.{next_due}
use Rattle.charmlet_world.specs.Standing.{risen}
use Rattle.charmlet_world.specs.Tied.{Scheduled, seq_as}
use Rattle.charmlet_world.specs.Waiting.{shown_message}
use Rattle.charmlet_world.proofs.Tying.{few_processors, next_none, next_some, next_within, seq_nos_in}
use Rattle.charmlet_world.proofs.scheduler.Scheduler.next_in.Goals as goal

pub returns-in_default-clause-next : goal.returns-in_default-clause-next
returns-in_default-clause-next g c = λ k processors elements.
    let own = c.self.inside in
    let p = own.processors in
    let rows = own.elements.entries in
    let w = own.pending in
    let h = c.self.invariant in
    let pe : k.processors ≡ p = processors ∙ sym (ap (λ (d : Scheduled). d.processors) c.self.view_is) in
    let ee : k.elements ≡ risen rows = elements ∙ sym (ap (λ (d : Scheduled). risen d.rows) c.self.view_is) in
    next_none k p rows w own.index h pe ee c.next_in.result c.in_default.is
    (c.next_in.ensures.index w.seq_nos h.place h.index h.climbs (seq_nos_in p rows w own.index h)) (c.next_in.ensures.placed w.seq_nos h.place h.index)
    ∙ ap (λ (d : Scheduled). next_due k d.pending) c.self.view_is

pub returns-in_default-find_seq-clause-next : goal.returns-in_default-find_seq-clause-next
returns-in_default-find_seq-clause-next g c = λ k processors elements.
    let own = c.self.inside in
    let p = own.processors in
    let rows = own.elements.entries in
    let w = own.pending in
    let h = c.self.invariant in
    let pe : k.processors ≡ p = processors ∙ sym (ap (λ (d : Scheduled). d.processors) c.self.view_is) in
    let ee : k.elements ≡ risen rows = elements ∙ sym (ap (λ (d : Scheduled). risen d.rows) c.self.view_is) in
    let none : None ≡ seq_as c.in-Some.number w.seq_nos w.messages = ap (option_map shown_message) (sym c.in_default-find_seq.is) ∙ c.find_seq.ensures in
    next_some k p rows w own.index h pe ee c.next_in.result (c.in-Some.on, c.in-Some.number) None c.in-Some.is
    (c.next_in.ensures.index w.seq_nos h.place h.index h.climbs (seq_nos_in p rows w own.index h)) (c.next_in.ensures.placed w.seq_nos h.place h.index)
    (ap (option_map {U = ℕ × MsgId} (λ (m : Message). (c.in-Some.on, m.id))) none)
    ∙ ap (λ (d : Scheduled). next_due k d.pending) c.self.view_is

pub overflow_cast-result : goal.overflow_cast-result
overflow_cast-result g c =
    let own = c.self.inside in
    let p = own.processors in
    let rows = own.elements.entries in
    let w = own.pending in
    let h = c.self.invariant in
    let within : c.in-Some.on < p = subst (λ o. IfSome o (λ e. e.0 < p)) c.in-Some.is (next_within p rows w own.index h c.next_in.result
    (c.next_in.ensures.index w.seq_nos h.place h.index h.climbs (seq_nos_in p rows w own.index h)) (c.next_in.ensures.placed w.seq_nos h.place h.index)) in
    let few = few_processors p h.some_processors in
    omega (arith, within, few)

pub returns-clause-next : goal.returns-clause-next
returns-clause-next g c = λ k processors elements.
    let own = c.self.inside in
    let p = own.processors in
    let rows = own.elements.entries in
    let w = own.pending in
    let h = c.self.invariant in
    let pe : k.processors ≡ p = processors ∙ sym (ap (λ (d : Scheduled). d.processors) c.self.view_is) in
    let ee : k.elements ≡ risen rows = elements ∙ sym (ap (λ (d : Scheduled). risen d.rows) c.self.view_is) in
    let found : option_map shown_message (Some (c.in-Some-find_seq.id, c.in-Some-find_seq._pending_message)) ≡ seq_as c.in-Some.number w.seq_nos w.messages = ap (option_map shown_message) (sym c.in-Some-find_seq.is) ∙ c.find_seq.ensures in
    next_some k p rows w own.index h pe ee c.next_in.result (c.in-Some.on, c.in-Some.number) (Some (c.in-Some.on, c.in-Some-find_seq.id)) c.in-Some.is
    (c.next_in.ensures.index w.seq_nos h.place h.index h.climbs (seq_nos_in p rows w own.index h)) (c.next_in.ensures.placed w.seq_nos h.place h.index)
    (ap (option_map {U = ℕ × MsgId} (λ (m : Message). (c.in-Some.on, m.id))) found)
    ∙ ap (λ (d : Scheduled). next_due k d.pending) c.self.view_is

pub returns-in_default-clause-ticks : goal.returns-in_default-clause-ticks
returns-in_default-clause-ticks g c =
    let len = c.self.invariant.few in
    let count : c.self.inside.processors ≡ c.args.self.now.processors = ap (λ (d : Scheduled). d.processors) c.self.view_is in
    omega (arith, c.next_in.ensures.ticks, len, count)

pub returns-in_default-find_seq-clause-ticks : goal.returns-in_default-find_seq-clause-ticks
returns-in_default-find_seq-clause-ticks g c =
    let len = c.self.invariant.few in
    let count : c.self.inside.processors ≡ c.args.self.now.processors = ap (λ (d : Scheduled). d.processors) c.self.view_is in
    omega (arith, c.next_in.ensures.ticks, len, count)

pub returns-clause-ticks : goal.returns-clause-ticks
returns-clause-ticks g c =
    let len = c.self.invariant.few in
    let count : c.self.inside.processors ≡ c.args.self.now.processors = ap (λ (d : Scheduled). d.processors) c.self.view_is in
    omega (arith, c.next_in.ensures.ticks, len, count)
