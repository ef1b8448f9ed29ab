use Rattle.std.proofs.Common.{ℕ, ◌≡◌, sym, ap, ◌∙◌, slice_get}
use Rattle.std.specs.Prelude.{None, Some, Option, option_map}
use Rattle.std.specs.Borrow.{Bor}
use Rattle.std.specs.Option.{option_copied}
use Rattle.charmlet_ready_queue.specs.SeqNos.SeqNos.{Climbs}
use Rattle.charmlet_model.specs.declared.names.MsgId.{MsgId}
use Rattle.charmlet_world.specs.declared.pending_message.PendingMessage.{PendingMessage}
use Rattle.charmlet_world.specs.declared.envelope.Envelope.{Envelope}
use Rattle.charmlet_world.specs.Tied.{seq_as}
use Rattle.charmlet_world.specs.Waiting.{Waiting, seq_nos_of, seqs, pending_messages, live, shown_message}
use Rattle.charmlet_world.proofs.Holes.{message_at}
use Rattle.charmlet_world.proofs.PendingMessages.{Envelopes}
use Rattle.charmlet_world.proofs.Enveloped.{seq_at, seq_there, none_seq, none_there}
use Rattle.charmlet_world.proofs.pending.Pending.find_seq.Goals as goal

pub returns-in_err-index : goal.returns-in_err-index
returns-in_err-index c =
    let es = c.self.inside.envelopes.entries in
    ap (option_map shown_message) c.from_residual.ensures
    ∙ sym (none_seq c.args.number es (c.envelope_of.ensures.nowhere c.in_err-index.was))
    ∙ ap (λ (w : Waiting). seq_as c.args.number w.seq_nos w.messages) c.self.view_is

pub returns-in_err-id : goal.returns-in_err-id
returns-in_err-id c = absurd (none_there c.self.inside.envelopes.entries c.in_ok-index.index c.args.number (sym c.in_err-id.ensures.entry) c.in_ok-index.ensures.found)

-- the message is what the envelope there has, if that is lent so
module _ (n : ℕ) (es : Envelopes) (i : ℕ) (id : MsgId) (envelope : Envelope) (climbs : Climbs (seqs es)) (at : slice_get es i ≡ Some (id, envelope)) (is : slice_get (seqs es) i ≡ Some n) where
  lent_is : (r s : Option (Bor PendingMessage)) → option_copied r ≡ envelope.pending_message → r ≡ s → message_at id (Some (option_copied s)) ≡ seq_as n (seq_nos_of es) (live (pending_messages es))
  lent_is r s lent same =
      let number : envelope.seq ≡ n = let both : Some envelope.seq ≡ Some n = sym (seq_there es i id envelope at) ∙ is in cc in
      ap (message_at id) (ap Some (ap option_copied (sym same) ∙ lent))
      ∙ sym (seq_at es i id envelope climbs at)
      ∙ ap (λ n. seq_as n (seq_nos_of es) (live (pending_messages es))) number

pub returns-in_err-pending_message : goal.returns-in_err-pending_message
returns-in_err-pending_message c =
    ap (option_map shown_message) c.from_residual-in_err-pending_message.ensures
    ∙ lent_is c.args.number c.self.inside.envelopes.entries c.in_ok-index.index c.in_ok-id.id.now c.in_ok-id.envelope.now c.self.invariant.climbs (sym c.in_ok-id.ensures.entry) c.in_ok-index.ensures.found
    c.as_ref.result None c.as_ref.ensures.value c.in_err-pending_message.was
    ∙ ap (λ (w : Waiting). seq_as c.args.number w.seq_nos w.messages) c.self.view_is

pub returns : goal.returns
returns c =
    lent_is c.args.number c.self.inside.envelopes.entries c.in_ok-index.index c.in_ok-id.id.now c.in_ok-id.envelope.now c.self.invariant.climbs (sym c.in_ok-id.ensures.entry) c.in_ok-index.ensures.found
    c.as_ref.result (Some c.in_ok-pending_message.pending_message) c.as_ref.ensures.value c.in_ok-pending_message.was
    ∙ ap (λ (w : Waiting). seq_as c.args.number w.seq_nos w.messages) c.self.view_is
