use Rattle.std.proofs.Common.{ℕ, ◌≡◌, ◌<◌, sym, ap, subst, ◌∙◌, arith}
use Rattle.std.specs.Prelude.{Some, None, IfSome, option_map}
use Rattle.charmlet_model.specs.declared.message.Message.{Message}
use Rattle.charmlet_model.specs.declared.names.MsgId.{MsgId}
use Rattle.charmlet_world.specs.Seen.{next_due}
use Rattle.charmlet_world.specs.Standing.{risen}
use Rattle.charmlet_world.specs.Tied.{Scheduled, seq_as}
use Rattle.charmlet_world.specs.Waiting.{shown_message}
use Rattle.charmlet_world.proofs.Tying.{few_processors, next_none, next_some, next_within, seq_nos_in}
use Rattle.charmlet_world.proofs.scheduler.Scheduler.next.Goals as goal

pub returns-in_default : goal.returns-in_default
returns-in_default c = λ k processors elements.
    let own = c.self.inside in
    let p = own.processors in
    let rows = own.elements.entries in
    let w = own.pending in
    let h = c.self.invariant in
    let pe : k.processors ≡ p = processors ∙ sym (ap (λ (d : Scheduled). d.processors) c.self.view_is) in
    let ee : k.elements ≡ risen rows = elements ∙ sym (ap (λ (d : Scheduled). risen d.rows) c.self.view_is) in
    next_none k p rows w own.index h pe ee c.next.result c.in_default.is
    (c.next.ensures.index w.seq_nos h.place h.index h.climbs (seq_nos_in p rows w own.index h)) (c.next.ensures.placed w.seq_nos h.place h.index)
    ∙ ap (λ (d : Scheduled). next_due k d.pending) c.self.view_is

pub returns-in_default-find_seq : goal.returns-in_default-find_seq
returns-in_default-find_seq c = λ k processors elements.
    let own = c.self.inside in
    let p = own.processors in
    let rows = own.elements.entries in
    let w = own.pending in
    let h = c.self.invariant in
    let pe : k.processors ≡ p = processors ∙ sym (ap (λ (d : Scheduled). d.processors) c.self.view_is) in
    let ee : k.elements ≡ risen rows = elements ∙ sym (ap (λ (d : Scheduled). risen d.rows) c.self.view_is) in
    let none : None ≡ seq_as c.in-Some.number w.seq_nos w.messages = ap (option_map shown_message) (sym c.in_default-find_seq.is) ∙ c.find_seq.ensures in
    next_some k p rows w own.index h pe ee c.next.result (c.in-Some.on, c.in-Some.number) None c.in-Some.is
    (c.next.ensures.index w.seq_nos h.place h.index h.climbs (seq_nos_in p rows w own.index h)) (c.next.ensures.placed w.seq_nos h.place h.index)
    (ap (option_map {U = ℕ × MsgId} (λ (m : Message). (c.in-Some.on, m.id))) none)
    ∙ ap (λ (d : Scheduled). next_due k d.pending) c.self.view_is

pub overflow_cast-result : goal.overflow_cast-result
overflow_cast-result c =
    let own = c.self.inside in
    let p = own.processors in
    let rows = own.elements.entries in
    let w = own.pending in
    let h = c.self.invariant in
    let within : c.in-Some.on < p = subst (λ o. IfSome o (λ e. e.0 < p)) c.in-Some.is (next_within p rows w own.index h c.next.result
    (c.next.ensures.index w.seq_nos h.place h.index h.climbs (seq_nos_in p rows w own.index h)) (c.next.ensures.placed w.seq_nos h.place h.index)) in
    let few = few_processors p h.some_processors in
    omega (arith, within, few)

pub returns : goal.returns
returns c = λ k processors elements.
    let own = c.self.inside in
    let p = own.processors in
    let rows = own.elements.entries in
    let w = own.pending in
    let h = c.self.invariant in
    let pe : k.processors ≡ p = processors ∙ sym (ap (λ (d : Scheduled). d.processors) c.self.view_is) in
    let ee : k.elements ≡ risen rows = elements ∙ sym (ap (λ (d : Scheduled). risen d.rows) c.self.view_is) in
    let found : option_map shown_message (Some (c.in-Some-find_seq.id, c.in-Some-find_seq._pending_message)) ≡ seq_as c.in-Some.number w.seq_nos w.messages = ap (option_map shown_message) (sym c.in-Some-find_seq.is) ∙ c.find_seq.ensures in
    next_some k p rows w own.index h pe ee c.next.result (c.in-Some.on, c.in-Some.number) (Some (c.in-Some.on, c.in-Some-find_seq.id)) c.in-Some.is
    (c.next.ensures.index w.seq_nos h.place h.index h.climbs (seq_nos_in p rows w own.index h)) (c.next.ensures.placed w.seq_nos h.place h.index)
    (ap (option_map {U = ℕ × MsgId} (λ (m : Message). (c.in-Some.on, m.id))) found)
    ∙ ap (λ (d : Scheduled). next_due k d.pending) c.self.view_is
