-- The sequence numbers of messages to one element, as a table of envelopes has them.
use Rattle.std.specs.Prelude.{◌≡◌, ℕ, ◌≤◌, ◌==◌, List, [], ◌∷◌, ◌++◌, length, Option, Some, None, unwrap_or, if◌then◌else◌, nat_le}
use Rattle.std.specs.List.{AllByRecursion}
use Rattle.std.specs.Map.{lookup}
use Rattle.charmlet_model.specs.declared.names.Elem.{Elem}
use Rattle.charmlet_model.specs.declared.names.MsgId.{MsgId}
use Rattle.charmlet_model.specs.declared.TheConstants.{CONSTRUCT}
use Rattle.charmlet_model.specs.Names.{same_elem}
use Rattle.charmlet_ready_queue.specs.SeqNos.SeqNos.{AllBefore, Climbs}
use Rattle.charmlet_ready_queue.specs.declared.index.chain.Call.{Call}
use Rattle.charmlet_world.specs.declared.pending_message.PendingMessage.{PendingMessage}
use Rattle.charmlet_world.specs.declared.receivers.Receiver.{Receiver}
use Rattle.charmlet_world.specs.declared.envelope.Envelope.{Envelope}
use Rattle.charmlet_world.specs.declared.pending.Taking.{Taking}
use Rattle.charmlet_world.specs.Waiting.{Counts, seqs, pending_messages}

-- ---- calls

-- the call of a pending message, if it is there and goes to the element
abbrev pub call_of : Elem → ℕ → Option PendingMessage → Option Call
call_of x n None = None
call_of x n (Some pending_message) = if same_elem pending_message.to x
    then Some (record { number = n; constructs = pending_message.entry == CONSTRUCT }) else None

-- these calls, and that one after them
abbrev pub then_call : List Call → Option Call → List Call
then_call calls None = calls
then_call calls (Some call) = calls ++ call ∷ []

-- the calls of the pending messages to an element that are there, the youngest first
abbrev pub calls_in : Elem → List (MsgId × Envelope) → List Call
calls_in x [] = []
calls_in x (e ∷ es) = then_call (calls_in x es) (call_of x e.1.seq e.1.pending_message)

-- ---- receivers

-- what is kept of the elements to which a message came, and for how many more there is room
pub record Received : Type 0 where
  pub entries : List (Elem × Receiver)
  pub room : ℕ

-- no message came
abbrev pub no_receiver : Receiver
no_receiver = record { count = 0; youngest = 0 }

-- what is kept of the element
abbrev pub receiver_in : List (Elem × Receiver) → Elem → Receiver
receiver_in entries x = unwrap_or (lookup (same_elem x) entries) no_receiver

-- it has so many calls, and none of them is younger
pub record IsCounted (r : Receiver) (calls : List Call) : Type 0 where
  pub count : r.count ≡ length calls
  pub youngest : AllByRecursion (λ (c : Call). c.number ≤ r.youngest) calls

-- ---- what is taken out of an envelope

-- the envelope as it was
abbrev pub envelope_before : Taking → Envelope
envelope_before t = record {
  seq = t.seq;
  receiver = t.receiver;
  pending_message =
      Some t.pending_message;
}

-- and as a hole
abbrev pub envelope_after : Taking → Envelope
envelope_after t = record { seq = t.seq; receiver = t.receiver; pending_message = None }

-- ---- tables

-- the smaller room of two
abbrev pub smaller : ℕ → ℕ → ℕ
smaller m n = if nat_le m n then m else n

-- the envelopes climb by sequence number, below the next one, and the calls of each element are
-- counted
pub record AreEnvelopes (es : List (MsgId × Envelope)) (holes start next : ℕ)
    (receivers : List (Elem × Receiver)) : Type 0 where
  pub counts : Counts (pending_messages es) holes start
  pub climbs : Climbs (seqs es)
  pub below : AllBefore next (seqs es)
  pub counted : (x : Elem) → IsCounted (receiver_in receivers x) (calls_in x es)
