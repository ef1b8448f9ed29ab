-- A batch and its closed gate, as it is handed to the halves.
use Rattle.std.proofs.Common.{◌≡◌, ℕ, suc, ◌+◌, ◌-◌, ◌^◌, ◌<◌, ◌≤◌, Bool, false, leb, None, List, [], ◌∷◌, ◌++◌, length, take, refl, ap, ◌∙◌, arith, slice_index}
use Rattle.std.proofs.lemmas.List.{take_at, get_or_push, length_push}
use Rattle.std.proofs.lemmas.Bool.Decides.{nat_tests}
use Rattle.charmlet_pup.specs.Fields.{number_bytes}
use Rattle.charmlet_model.specs.declared.logged.Logged.{Logged}
use Rattle.charmlet_model.specs.Spelling.{spell_batch}
use Rattle.charmlet_record.specs.WalBuffer.{Batched, IsWalBuffer, batch_count, batch_of, closed_batch, first_batches, start_of}
use Rattle.charmlet_record.proofs.WalBuffers.{ends, start_more, starts_rise}
use Rattle.charmlet_halves.specs.Answers.{batch_refusal}
use Rattle.charmlet_halves.specs.Bytes.{EndsClosed, before_gate}

closed_is : (events : List Logged) → closed_batch events ≡ spell_batch events ++ 0 ∷ []
unfolding closed_batch number_bytes
closed_is events = refl

closed_length : (events : List Logged) → length (closed_batch events) ≡ length (spell_batch events) + 1
closed_length events = ap (length {A = ℕ}) (closed_is events) ∙ length_push (spell_batch events) 0

pub closed_ends : (events : List Logged) → EndsClosed (closed_batch events)
closed_ends events =
    let at : length (spell_batch events) ≡ length (closed_batch events) - 1 = omega (arith, closed_length events) in
    let gate : slice_index (closed_batch events) (length (closed_batch events) - 1) ≡ 0 =
    ap (λ (l : List ℕ). slice_index l (length (closed_batch events) - 1)) (closed_is events) ∙ get_or_push (spell_batch events) 0 0 (length (closed_batch events) - 1) at in
    record { some = omega (arith, closed_length events); closed = λ same. absurd (omega (arith, gate, same)) }

pub before_closed : (events : List Logged) → before_gate (closed_batch events) ≡ spell_batch events
before_closed events =
    let at : length (spell_batch events) ≡ length (closed_batch events) - 1 = omega (arith, closed_length events) in
    ap (take (length (closed_batch events) - 1)) (closed_is events) ∙ take_at (spell_batch events) (0 ∷ []) (length (closed_batch events) - 1) at

-- a batch is refused to no halves that go on, if it fits
pub not_refused : (halted : Bool) (log_end size : ℕ) → halted ≡ false → log_end + size < 2 ^ 31 → batch_refusal halted log_end size ≡ None
not_refused halted log_end size going room =
    let fits : leb (2 ^ 31) (log_end + size) ≡ false = grind (arith, nat_tests) in
    rw (going, fits) refl

-- a batch ends within its WAL buffer
pub batch_fits : (b : Batched) (events : List Logged) (i : ℕ) → IsWalBuffer b events → i < length b.starts → start_of events i + length (closed_batch (batch_of events i)) ≤ length b.bytes
batch_fits b events i is lt =
    omega (arith, start_more events i, ends b events is, is.number, starts_rise events (batch_count events - suc i) (suc i) (batch_count events) (omega (arith, is.number)))

-- the first batch begins at once
pub start_none : (events : List Logged) → start_of events 0 ≡ 0
unfolding first_batches
start_none events = refl

-- where there is a batch, there are bytes
pub some_bytes : (b : Batched) (events : List Logged) (i : ℕ) → IsWalBuffer b events → i < length b.starts → 0 < length b.bytes
some_bytes b events i is lt = omega (arith, batch_fits b events i is lt, closed_length (batch_of events i))

-- a batch of a WAL buffer that fits isn't refused
pub batch_goes : (b : Batched) (events : List Logged) (i : ℕ) (bytes : List ℕ) (halted : Bool) (first log_end : ℕ) → IsWalBuffer b events → i < length b.starts → bytes ≡ closed_batch (batch_of events i) →
    halted ≡ false → log_end ≡ first + start_of events i → (0 < length b.bytes → first + length b.bytes < 2 ^ 31) → batch_refusal halted log_end (length bytes) ≡ None
batch_goes b events i bytes halted first log_end is lt same going at room =
    not_refused halted log_end (length bytes) going (omega (arith, ap (length {A = ℕ}) same, batch_fits b events i is lt, room (some_bytes b events i is lt)))
