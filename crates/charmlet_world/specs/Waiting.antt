-- The pending messages, as the table that holds them says them.
use Rattle.std.specs.Prelude.{◌≡◌, ℕ, ◌+◌, ◌≤◌, List, [], ◌∷◌, length, map, take, slice_get, Option, Some, None}
use Rattle.std.specs.Borrow.{Bor}
use Rattle.charmlet_model.specs.declared.names.MsgId.{MsgId}
use Rattle.charmlet_model.specs.declared.message.Message.{Message}
use Rattle.charmlet_world.specs.declared.pending_message.PendingMessage.{PendingMessage}
use Rattle.charmlet_world.specs.declared.envelope.Envelope.{Envelope}

-- the messages in order of arrival, their sequence numbers, the least number that the next sequence
-- number may have, and for how many more messages there is room
pub record Waiting : Type 0 where
  pub messages : List Message
  pub seq_nos : List ℕ
  pub next : ℕ
  pub room : ℕ

-- a pending message under its id is a message
abbrev pub message_of : MsgId → PendingMessage → Message
message_of id pending_message = record {
  id = id;
  to = pending_message.to;
  entry = pending_message.entry;
  words = pending_message.words;
}

-- the pending message, if it is there, as a message before these; one that was taken left a hole
abbrev pub with_pending_message : MsgId → Option PendingMessage → List Message → List Message
with_pending_message id None ms = ms
with_pending_message id (Some pending_message) ms = message_of id pending_message ∷ ms

-- the pending messages that are there, each as a message, in the entries' order
abbrev pub live : List (MsgId × Option PendingMessage) → List Message
live [] = []
live (e ∷ es) = with_pending_message e.0 e.1 (live es)

-- `holes` of the entries are holes, and before `start` there are only holes
pub record Counts (entries : List (MsgId × Option PendingMessage)) (holes start : ℕ) : Type 0 where
  pub counted : length (live entries) + holes ≡ length entries
  pub within : start ≤ length entries
  pub before : live (take start entries) ≡ []

-- ---- envelopes

-- the pending messages of envelopes, each under its id
abbrev pub pending_messages : List (MsgId × Envelope) → List (MsgId × Option PendingMessage)
pending_messages envelopes = map (λ e. (e.0, e.1.pending_message)) envelopes

-- the envelope there is the id's
abbrev pub IsAt : List (MsgId × Envelope) → ℕ → MsgId → Type 0
IsAt envelopes i id = (envelope : Envelope) × (slice_get envelopes i ≡ Some (id, envelope))

-- the sequence numbers of envelopes
abbrev pub seqs : List (MsgId × Envelope) → List ℕ
seqs envelopes = map (λ e. e.1.seq) envelopes

-- the sequence number, where its pending message is there, before these
abbrev pub with_seq_no : ℕ → Option PendingMessage → List ℕ → List ℕ
with_seq_no n None seq_nos = seq_nos
with_seq_no n (Some pending_message) seq_nos = n ∷ seq_nos

-- the sequence numbers of the pending messages that are there, in the envelopes' order
abbrev pub seq_nos_of : List (MsgId × Envelope) → List ℕ
seq_nos_of [] = []
seq_nos_of (e ∷ es) = with_seq_no e.1.seq e.1.pending_message (seq_nos_of es)

-- what an iterator lends, as a message
abbrev pub shown_message : MsgId × Bor PendingMessage → Message
shown_message x = message_of x.0 x.1.now
