use Rattle.std.proofs.Common.{◌≡◌, ◌≤◌, ◌++◌, [], ◌∷◌, refl, sym, ap, subst, ◌∙◌, arith, filter}
use Rattle.std.specs.Prelude.{Some, is_some}
use Rattle.charmlet_world.specs.declared.pending_message.PendingMessage.{PendingMessage}
use Rattle.charmlet_world.specs.declared.envelope.Envelope.{Envelope}
use Rattle.charmlet_world.specs.Waiting.{Waiting, seq_nos_of, pending_messages, live}
use Rattle.charmlet_world.proofs.Holes.{live-append, swept}
use Rattle.charmlet_world.proofs.PendingMessages.{append_pending_messages, filter_pending_messages}
use Rattle.charmlet_world.proofs.Enveloped.{seq_nos_append, seq_nos_swept, few_calls_in}
use Rattle.charmlet_world.proofs.EnvelopesKept.{envelopes_pushed, envelopes_swept}
use Rattle.charmlet_world.proofs.pending.Pending.push_to.Goals as goal
use Rattle.charmlet_world.proofs.pending.Pending.push_to.Goals.{then-add, else-add}

pub count_in-receiver-requires-clause-few : goal.count_in-receiver-requires-clause-few
count_in-receiver-requires-clause-few c =
    let own = c.self.inside in
    let counted = (c.self.invariant.counted c.args.message.to).count in
    let few = few_calls_in c.args.message.to own.envelopes.entries in
    omega (arith, counted, few, c.len-len.ensures.len, c.len-len.ensures.small)

pub invariant_of-self : goal.invariant_of-self
invariant_of-self c =
    let own = c.self.inside in
    let es = own.envelopes.entries in
    let m = c.args.message in
    let l : PendingMessage = record { to = m.to; entry = m.entry; words = m.words } in
    let s : Envelope = record { seq = c.args.seq; receiver = c.count_in-receiver.result; pending_message = Some l } in
    let last = subst (λ (w : Waiting). w.next ≤ c.args.seq) (sym c.self.view_is) c.requires.last in
    let counted = c.count_in-receiver.ensures in
    elim c.if-add.branch [
      | then-add w ↦ rw (w.self-inside-is, w.if-add.ensures.entries) (envelopes_pushed (filter (λ e. is_some e.1.pending_message) es) m.id s l refl own.receivers.entries c.count_in-receiver.new.self.entries counted.count counted.youngest counted.others 0 0 own.next last (envelopes_swept es own.holes own.start own.next own.receivers.entries c.self.invariant))
      | else-add w ↦ rw (w.self-inside-is, w.if-add.ensures.entries) (envelopes_pushed es m.id s l refl own.receivers.entries c.count_in-receiver.new.self.entries counted.count counted.youngest counted.others own.holes own.start own.next last c.self.invariant)
    ]

pub returns-clause-messages : goal.returns-clause-messages
returns-clause-messages c =
    let es = c.self.inside.envelopes.entries in
    let m = c.args.message in
    let l : PendingMessage = record { to = m.to; entry = m.entry; words = m.words } in
    let s : Envelope = record { seq = c.args.seq; receiver = c.count_in-receiver.result; pending_message = Some l } in
    let was : live (pending_messages es) ≡ c.args.self.now.messages = ap (λ (w : Waiting). w.messages) c.self.view_is in
    let kept = filter (λ e. is_some e.1.pending_message) es in
    elim c.if-add.branch [
      | then-add w ↦ rw (w.self-inside-is, w.if-add.ensures.entries) (ap live (append_pending_messages kept ((m.id, s) ∷ [])) ∙ live-append (pending_messages kept) ((m.id, Some l) ∷ []) ∙ ap (λ ms. ms ++ m ∷ []) (ap live (filter_pending_messages es) ∙ swept (pending_messages es) ∙ was))
      | else-add w ↦ rw (w.self-inside-is, w.if-add.ensures.entries) (ap live (append_pending_messages es ((m.id, s) ∷ [])) ∙ live-append (pending_messages es) ((m.id, Some l) ∷ []) ∙ ap (λ ms. ms ++ m ∷ []) was)
    ]

pub returns-clause-seq_nos : goal.returns-clause-seq_nos
returns-clause-seq_nos c =
    let es = c.self.inside.envelopes.entries in
    let m = c.args.message in
    let l : PendingMessage = record { to = m.to; entry = m.entry; words = m.words } in
    let s : Envelope = record { seq = c.args.seq; receiver = c.count_in-receiver.result; pending_message = Some l } in
    let was : seq_nos_of es ≡ c.args.self.now.seq_nos = ap (λ (w : Waiting). w.seq_nos) c.self.view_is in
    let kept = filter (λ e. is_some e.1.pending_message) es in
    elim c.if-add.branch [
      | then-add w ↦ rw (w.self-inside-is, w.if-add.ensures.entries) (seq_nos_append kept m.id s l refl ∙ ap (λ bs. bs ++ c.args.seq ∷ []) (seq_nos_swept es ∙ was))
      | else-add w ↦ rw (w.self-inside-is, w.if-add.ensures.entries) (seq_nos_append es m.id s l refl ∙ ap (λ bs. bs ++ c.args.seq ∷ []) was)
    ]
