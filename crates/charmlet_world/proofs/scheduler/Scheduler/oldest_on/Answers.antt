use Rattle.std.proofs.Common.{◌≡◌, sym, ap, ◌∙◌, arith}
use Rattle.std.specs.Prelude.{Some, None, option_map}
use Rattle.charmlet_model.specs.declared.message.Message.{Message}
use Rattle.charmlet_world.specs.Seen.{oldest_on}
use Rattle.charmlet_world.specs.Standing.{risen}
use Rattle.charmlet_world.specs.Tied.{Scheduled, seq_as, readiness_by}
use Rattle.charmlet_world.specs.Waiting.{shown_message}
use Rattle.charmlet_world.proofs.Ties.{as_many}
use Rattle.charmlet_world.proofs.Tying.{empty_on, none_on, oldest_none, oldest_some}
use Rattle.charmlet_world.proofs.scheduler.Scheduler.oldest_on.Goals as goal

pub returns-then-processor-self-clause-oldest : goal.returns-then-processor-self-clause-oldest
returns-then-processor-self-clause-oldest g c = λ k processors elements.
    let own = c.self.inside in
    let p = own.processors in
    let pe : k.processors ≡ p = processors ∙ sym (ap (λ (d : Scheduled). d.processors) c.self.view_is) in
    let ee : k.elements ≡ risen own.elements.entries = elements ∙ sym (ap (λ (d : Scheduled). risen d.rows) c.self.view_is) in
    sym (none_on k p own.elements.entries own.pending own.index c.self.invariant pe ee c.args.processor c.if-processor-self.true)
    ∙ ap (λ (d : Scheduled). oldest_on k c.args.processor d.pending) c.self.view_is

pub returns-then-len-eq0-clause-oldest : goal.returns-then-len-eq0-clause-oldest
returns-then-len-eq0-clause-oldest g c = λ k processors elements.
    let own = c.self.inside in
    let p = own.processors in
    let pe : k.processors ≡ p = processors ∙ sym (ap (λ (d : Scheduled). d.processors) c.self.view_is) in
    let ee : k.elements ≡ risen own.elements.entries = elements ∙ sym (ap (λ (d : Scheduled). risen d.rows) c.self.view_is) in
    sym (empty_on k p own.elements.entries own.pending own.index c.self.invariant pe ee c.args.processor (sym c.len.ensures ∙ c.if-len-eq0.true))
    ∙ ap (λ (d : Scheduled). oldest_on k c.args.processor d.pending) c.self.view_is

pub returns-in_default-clause-oldest : goal.returns-in_default-clause-oldest
returns-in_default-clause-oldest g c = λ k processors elements.
    let own = c.self.inside in
    let p = own.processors in
    let w = own.pending in
    let h = c.self.invariant in
    let pe : k.processors ≡ p = processors ∙ sym (ap (λ (d : Scheduled). d.processors) c.self.view_is) in
    let ee : k.elements ≡ risen own.elements.entries = elements ∙ sym (ap (λ (d : Scheduled). risen d.rows) c.self.view_is) in
    let many = as_many (readiness_by p own.elements.entries) h.place w.seq_nos w.messages h.are in
    let len = h.opened (omega (arith, many, c.len.ensures, c.if-len-eq0.false)) in
    oldest_none k p own.elements.entries w own.index h pe ee c.args.processor c.oldest_on.result c.in_default.is
    (c.oldest_on.ensures.index w.seq_nos h.place h.index (omega (arith, len, c.if-processor-self.false)))
    ∙ ap (λ (d : Scheduled). oldest_on k c.args.processor d.pending) c.self.view_is

pub returns-in_default-find_seq-clause-oldest : goal.returns-in_default-find_seq-clause-oldest
returns-in_default-find_seq-clause-oldest g c = λ k processors elements.
    let own = c.self.inside in
    let p = own.processors in
    let w = own.pending in
    let h = c.self.invariant in
    let pe : k.processors ≡ p = processors ∙ sym (ap (λ (d : Scheduled). d.processors) c.self.view_is) in
    let ee : k.elements ≡ risen own.elements.entries = elements ∙ sym (ap (λ (d : Scheduled). risen d.rows) c.self.view_is) in
    let many = as_many (readiness_by p own.elements.entries) h.place w.seq_nos w.messages h.are in
    let len = h.opened (omega (arith, many, c.len.ensures, c.if-len-eq0.false)) in
    let none : None ≡ seq_as c.in-Some.number w.seq_nos w.messages = ap (option_map shown_message) (sym c.in_default-find_seq.is) ∙ c.find_seq.ensures in
    oldest_some k p own.elements.entries w own.index h pe ee c.args.processor c.oldest_on.result c.in-Some.number None c.in-Some.is
    (c.oldest_on.ensures.index w.seq_nos h.place h.index (omega (arith, len, c.if-processor-self.false)))
    (ap (option_map (λ (m : Message). m.id)) none)
    ∙ ap (λ (d : Scheduled). oldest_on k c.args.processor d.pending) c.self.view_is

pub returns-clause-oldest : goal.returns-clause-oldest
returns-clause-oldest g c = λ k processors elements.
    let own = c.self.inside in
    let p = own.processors in
    let w = own.pending in
    let h = c.self.invariant in
    let pe : k.processors ≡ p = processors ∙ sym (ap (λ (d : Scheduled). d.processors) c.self.view_is) in
    let ee : k.elements ≡ risen own.elements.entries = elements ∙ sym (ap (λ (d : Scheduled). risen d.rows) c.self.view_is) in
    let many = as_many (readiness_by p own.elements.entries) h.place w.seq_nos w.messages h.are in
    let len = h.opened (omega (arith, many, c.len.ensures, c.if-len-eq0.false)) in
    let found : option_map shown_message (Some (c.in-Some-find_seq.id, c.in-Some-find_seq._pending_message)) ≡ seq_as c.in-Some.number w.seq_nos w.messages = ap (option_map shown_message) (sym c.in-Some-find_seq.is) ∙ c.find_seq.ensures in
    oldest_some k p own.elements.entries w own.index h pe ee c.args.processor c.oldest_on.result c.in-Some.number (Some c.in-Some-find_seq.id) c.in-Some.is
    (c.oldest_on.ensures.index w.seq_nos h.place h.index (omega (arith, len, c.if-processor-self.false)))
    (ap (option_map (λ (m : Message). m.id)) found)
    ∙ ap (λ (d : Scheduled). oldest_on k c.args.processor d.pending) c.self.view_is
