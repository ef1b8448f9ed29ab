-- The sequence numbers of envelopes, and the calls of one element among them.
use Rattle.std.proofs.Common.{◌≡◌, ℕ, ◌+◌, ◌<◌, ◌≤◌, suc, Bool, true, false, List, [], ◌∷◌, ◌++◌, length, take, drop, filter, refl, sym, ap, subst, ◌∙◌, arith, slice_get, if◌then◌else◌, append_assoc}
use Rattle.std.specs.Prelude.{Option, Some, None, is_some, ◌==◌, ◌||◌, option_and_then}
use Rattle.std.specs.List.{AllByRecursion, IsDistinct}
use Rattle.std.specs.Map.{keys_of}
use Rattle.indexmap.specs.IndexMap.{set_value_at}
use Rattle.charmlet_model.specs.declared.names.Elem.{Elem}
use Rattle.charmlet_model.specs.declared.names.MsgId.{MsgId}
use Rattle.charmlet_model.specs.declared.message.Message.{Message}
use Rattle.charmlet_model.specs.declared.TheConstants.{CONSTRUCT}
use Rattle.charmlet_model.specs.Fit.{AreDistinct}
use Rattle.charmlet_model.specs.Names.{same_elem, same_id}
use Rattle.charmlet_ready_queue.specs.SeqNos.SeqNos.{AllAfter, AllBefore, Climbs, without_number}
use Rattle.charmlet_ready_queue.proofs.SeqNosLemmas.Rising.{all_append, all_at, all_left}
use Rattle.charmlet_ready_queue.specs.declared.index.chain.Call.{Call}
use Rattle.charmlet_ready_queue.specs.Index.Index.{holds}
use Rattle.charmlet_ready_queue.proofs.IndexLemmas.Numbers.{none_after}
use Rattle.charmlet_world.specs.declared.pending_message.PendingMessage.{PendingMessage}
use Rattle.charmlet_world.specs.declared.pending.Taking.{Taking}
use Rattle.charmlet_world.specs.declared.envelope.Envelope.{Envelope}
use Rattle.charmlet_world.specs.Ids.{table_eq}
use Rattle.charmlet_world.specs.Envelopes.{call_of, calls_in, envelope_after, envelope_before, then_call}
use Rattle.charmlet_world.specs.Tied.{seq_as, calls_down}
use Rattle.charmlet_world.specs.Waiting.{seq_nos_of, seqs, pending_messages, live, with_seq_no, with_pending_message}
use Rattle.charmlet_world.proofs.Holes.{message_at}
use Rattle.charmlet_world.proofs.Ids.{table_eq-is}
use Rattle.charmlet_world.proofs.PendingMessages.{Envelopes}

like : (n : ℕ) → (n == n) ≡ true
like n = grind arith

unlike : (a b : ℕ) → a < b → (a == b) ≡ false
unlike a b h = grind arith

-- ---- sequence numbers

-- what is so of all sequence numbers is so of those whose pending messages are there
pub all_seq_nos : (P : ℕ → Type 0) (es : Envelopes) → AllByRecursion P (seqs es) → AllByRecursion P (seq_nos_of es)
all_seq_nos P [] h = tt
all_seq_nos P (e ∷ es) h = elim e.1.pending_message as (λ o. AllByRecursion P (with_seq_no e.1.seq o (seq_nos_of es))) [
  | None ↦ all_seq_nos P es h.1
  | Some l ↦ (h.0, all_seq_nos P es h.1)
]

pub climbs_seq_nos : (es : Envelopes) → Climbs (seqs es) → Climbs (seq_nos_of es)
climbs_seq_nos [] c = tt
climbs_seq_nos (e ∷ es) c = elim e.1.pending_message as (λ o. Climbs (with_seq_no e.1.seq o (seq_nos_of es))) [
  | None ↦ climbs_seq_nos es c.1
  | Some l ↦ (all_seq_nos (λ m. e.1.seq < m) es c.0, climbs_seq_nos es c.1)
]

pub seq_there : (es : Envelopes) (i : ℕ) (id : MsgId) (s : Envelope) → slice_get es i ≡ Some (id, s) → slice_get (seqs es) i ≡ Some s.seq
seq_there [] i id s at = cc
seq_there (e ∷ es) Prim.Native.Nat.zero id s at = let same : e ≡ (id, s) = cc in ap (λ (f : MsgId × Envelope). Some f.1.seq) same
seq_there (e ∷ es) (suc i) id s at = seq_there es i id s at

pub none_there : (es : Envelopes) (i n : ℕ) → slice_get es i ≡ None → slice_get (seqs es) i ≡ Some n → ⊥
none_there [] i n none at = cc
none_there (e ∷ es) Prim.Native.Nat.zero n none at = cc
none_there (e ∷ es) (suc i) n none at = none_there es i n none at

either_false : (s t : Bool) → (s || t) ≡ false → (s ≡ false) × (t ≡ false)
either_false true t h = cc
either_false false t h = (refl, h)

-- a sequence number that no envelope has is no message's
pub none_seq : (n : ℕ) (es : Envelopes) → holds n (seqs es) ≡ false → seq_as n (seq_nos_of es) (live (pending_messages es)) ≡ None
none_seq n [] h = refl
none_seq n (e ∷ es) h =
    let both = either_false (e.1.seq == n) (holds n (seqs es)) h in
    let more = none_seq n es both.1 in
    elim e.1.pending_message as (λ o. seq_as n (with_seq_no e.1.seq o (seq_nos_of es)) (with_pending_message e.0 o (live (pending_messages es))) ≡ None) [
      | None ↦ more
      | Some l ↦ rw both.0 more
    ]

-- the message of a sequence number is what its envelope has
pub seq_at : (es : Envelopes) (i : ℕ) (id : MsgId) (s : Envelope) → Climbs (seqs es) → slice_get es i ≡ Some (id, s) → seq_as s.seq (seq_nos_of es) (live (pending_messages es)) ≡ message_at id (Some s.pending_message)
seq_at [] i id s c at = cc
seq_at (e ∷ es) Prim.Native.Nat.zero id s c at =
    let same : e ≡ (id, s) = cc in
    subst (λ (f : MsgId × Envelope). seq_as f.1.seq (seq_nos_of (e ∷ es)) (live (pending_messages (e ∷ es))) ≡ message_at f.0 (Some f.1.pending_message)) same
    (elim e.1.pending_message as (λ o. seq_as e.1.seq (with_seq_no e.1.seq o (seq_nos_of es)) (with_pending_message e.0 o (live (pending_messages es))) ≡ message_at e.0 (Some o)) [
      | None ↦ none_seq e.1.seq es (none_after e.1.seq (seqs es) c.0)
      | Some l ↦ rw (like e.1.seq) refl
    ])
seq_at (e ∷ es) (suc i) id s c at =
    let before : e.1.seq < s.seq = all_at (λ m. e.1.seq < m) (seqs es) i s.seq c.0 (seq_there es i id s at) in
    let more = seq_at es i id s c.1 at in
    elim e.1.pending_message as (λ o. seq_as s.seq (with_seq_no e.1.seq o (seq_nos_of es)) (with_pending_message e.0 o (live (pending_messages es))) ≡ message_at id (Some s.pending_message)) [
      | None ↦ more
      | Some l ↦ rw (unlike e.1.seq s.seq before) more
    ]

-- a pending message that is taken takes its sequence number along
pub seq_nos_taken : (es : Envelopes) (i : ℕ) (id : MsgId) (t : Taking) → Climbs (seqs es) → slice_get es i ≡ Some (id, envelope_before t) → seq_nos_of (set_value_at es i (envelope_after t)) ≡ without_number t.seq (seq_nos_of es)
seq_nos_taken [] i id t c at = cc
seq_nos_taken (e ∷ es) Prim.Native.Nat.zero id t c at =
    let same : e ≡ (id, envelope_before t) = cc in
    let after : AllAfter t.seq (seq_nos_of es) = subst (λ (f : MsgId × Envelope). AllAfter f.1.seq (seq_nos_of es)) same (all_seq_nos (λ m. e.1.seq < m) es c.0) in
    subst (λ (f : MsgId × Envelope). seq_nos_of es ≡ without_number t.seq (with_seq_no f.1.seq f.1.pending_message (seq_nos_of es))) (sym same)
    (rw (like t.seq) (sym (all_left (seq_nos_of es) t.seq after)))
seq_nos_taken (e ∷ es) (suc i) id t c at =
    let before : e.1.seq < t.seq = all_at (λ m. e.1.seq < m) (seqs es) i t.seq c.0 (seq_there es i id (envelope_before t) at) in
    let more = seq_nos_taken es i id t c.1 at in
    elim e.1.pending_message as (λ o. with_seq_no e.1.seq o (seq_nos_of (set_value_at es i (envelope_after t))) ≡ without_number t.seq (with_seq_no e.1.seq o (seq_nos_of es))) [
      | None ↦ more
      | Some l ↦ rw (unlike e.1.seq t.seq before) (ap (λ bs. e.1.seq ∷ bs) more)
    ]

pub seqs_taken : (es : Envelopes) (i : ℕ) (id : MsgId) (t : Taking) → slice_get es i ≡ Some (id, envelope_before t) → seqs (set_value_at es i (envelope_after t)) ≡ seqs es
seqs_taken [] i id t at = cc
seqs_taken (e ∷ es) Prim.Native.Nat.zero id t at = let same : e ≡ (id, envelope_before t) = cc in ap (λ (f : MsgId × Envelope). f.1.seq ∷ seqs es) (sym same)
seqs_taken (e ∷ es) (suc i) id t at = ap (λ bs. e.1.seq ∷ bs) (seqs_taken es i id t at)

pub seq_nos_append : (es : Envelopes) (id : MsgId) (s : Envelope) (l : PendingMessage) → s.pending_message ≡ Some l → seq_nos_of (es ++ (id, s) ∷ []) ≡ seq_nos_of es ++ s.seq ∷ []
seq_nos_append [] id s l is = ap (λ o. with_seq_no s.seq o []) is
seq_nos_append (e ∷ es) id s l is = elim e.1.pending_message as (λ o. with_seq_no e.1.seq o (seq_nos_of (es ++ (id, s) ∷ [])) ≡ with_seq_no e.1.seq o (seq_nos_of es) ++ s.seq ∷ []) [
  | None ↦ seq_nos_append es id s l is
  | Some k ↦ ap (λ bs. e.1.seq ∷ bs) (seq_nos_append es id s l is)
]

pub seqs_append : (es : Envelopes) (id : MsgId) (s : Envelope) → seqs (es ++ (id, s) ∷ []) ≡ seqs es ++ s.seq ∷ []
seqs_append [] id s = refl
seqs_append (e ∷ es) id s = ap (λ bs. e.1.seq ∷ bs) (seqs_append es id s)

-- ---- a sweep

kept_seq_nos : (P : ℕ → Type 0) (es : Envelopes) → AllByRecursion P (seqs es) → AllByRecursion P (seqs (filter (λ e. is_some e.1.pending_message) es))
kept_seq_nos P [] h = tt
kept_seq_nos P (e ∷ es) h = elim (is_some e.1.pending_message) as (λ b. AllByRecursion P (seqs (if b then e ∷ filter (λ f. is_some f.1.pending_message) es else filter (λ f. is_some f.1.pending_message) es))) [
  | true ↦ (h.0, kept_seq_nos P es h.1)
  | false ↦ kept_seq_nos P es h.1
]

pub below_swept : (n : ℕ) (es : Envelopes) → AllBefore n (seqs es) → AllBefore n (seqs (filter (λ e. is_some e.1.pending_message) es))
below_swept n = kept_seq_nos (λ m. m < n)

pub climbs_swept : (es : Envelopes) → Climbs (seqs es) → Climbs (seqs (filter (λ e. is_some e.1.pending_message) es))
climbs_swept [] c = tt
climbs_swept (e ∷ es) c = elim (is_some e.1.pending_message) as (λ b. Climbs (seqs (if b then e ∷ filter (λ f. is_some f.1.pending_message) es else filter (λ f. is_some f.1.pending_message) es))) [
  | true ↦ (kept_seq_nos (λ m. e.1.seq < m) es c.0, climbs_swept es c.1)
  | false ↦ climbs_swept es c.1
]

pub seq_nos_swept : (es : Envelopes) → seq_nos_of (filter (λ e. is_some e.1.pending_message) es) ≡ seq_nos_of es
seq_nos_swept [] = refl
seq_nos_swept (e ∷ es) = by (seq_nos_swept es) e.1.pending_message refl
  where
    by : seq_nos_of (filter (λ f. is_some f.1.pending_message) es) ≡ seq_nos_of es → (o : Option PendingMessage) → e.1.pending_message ≡ o → seq_nos_of (if is_some e.1.pending_message then e ∷ filter (λ f. is_some f.1.pending_message) es else filter (λ f. is_some f.1.pending_message) es) ≡ with_seq_no e.1.seq e.1.pending_message (seq_nos_of es)
    by more None is = rw is more
    by more (Some l) is = ap (λ o. seq_nos_of (if is_some o then e ∷ filter (λ f. is_some f.1.pending_message) es else filter (λ f. is_some f.1.pending_message) es)) is ∙ ap (with_seq_no e.1.seq e.1.pending_message) more

pub calls_swept : (x : Elem) (es : Envelopes) → calls_in x (filter (λ e. is_some e.1.pending_message) es) ≡ calls_in x es
calls_swept x [] = refl
calls_swept x (e ∷ es) = by (calls_swept x es) e.1.pending_message refl
  where
    by : calls_in x (filter (λ f. is_some f.1.pending_message) es) ≡ calls_in x es → (o : Option PendingMessage) → e.1.pending_message ≡ o → calls_in x (if is_some e.1.pending_message then e ∷ filter (λ f. is_some f.1.pending_message) es else filter (λ f. is_some f.1.pending_message) es) ≡ then_call (calls_in x es) (call_of x e.1.seq e.1.pending_message)
    by more None is = rw is more
    by more (Some l) is = ap (λ o. calls_in x (if is_some o then e ∷ filter (λ f. is_some f.1.pending_message) es else filter (λ f. is_some f.1.pending_message) es)) is ∙ ap (λ calls. then_call calls (call_of x e.1.seq e.1.pending_message)) more

-- ---- calls

-- a call before the others, which are older
abbrev pub first_call : Option Call → List Call → List Call
first_call None calls = calls
first_call (Some call) calls = call ∷ calls

first_then : (o p : Option Call) (calls : List Call) → then_call (first_call o calls) p ≡ first_call o (then_call calls p)
first_then None p calls = refl
first_then (Some c) None calls = refl
first_then (Some c) (Some d) calls = refl

one_call : (o : Option Call) → then_call [] o ≡ first_call o []
one_call None = refl
one_call (Some c) = refl

pub calls_append : (x : Elem) (es : Envelopes) (id : MsgId) (s : Envelope) → calls_in x (es ++ (id, s) ∷ []) ≡ first_call (call_of x s.seq s.pending_message) (calls_in x es)
calls_append x [] id s = one_call (call_of x s.seq s.pending_message)
calls_append x (e ∷ es) id s = ap (λ calls. then_call calls (call_of x e.1.seq e.1.pending_message)) (calls_append x es id s) ∙ first_then (call_of x s.seq s.pending_message) (call_of x e.1.seq e.1.pending_message) (calls_in x es)

-- one more envelope is looked at
pub calls_step : (x : Elem) (es : Envelopes) (n : ℕ) → calls_in x (take (suc n) es) ≡ first_call (option_and_then (λ (e : MsgId × Envelope). call_of x e.1.seq e.1.pending_message) (slice_get es n)) (calls_in x (take n es))
calls_step x [] Prim.Native.Nat.zero = refl
calls_step x [] (suc n) = refl
calls_step x (e ∷ es) Prim.Native.Nat.zero = one_call (call_of x e.1.seq e.1.pending_message)
calls_step x (e ∷ es) (suc n) =
    ap (λ calls. then_call calls (call_of x e.1.seq e.1.pending_message)) (calls_step x es n)
    ∙ first_then (option_and_then (λ (f : MsgId × Envelope). call_of x f.1.seq f.1.pending_message) (slice_get es n)) (call_of x e.1.seq e.1.pending_message) (calls_in x (take n es))

then_append : (xs ys : List Call) (o : Option Call) → then_call (xs ++ ys) o ≡ xs ++ then_call ys o
then_append xs ys None = refl
then_append xs ys (Some c) = append_assoc xs ys (c ∷ [])

-- the calls are those behind a place, and then those before it
pub calls_split : (x : Elem) (n : ℕ) (es : Envelopes) → calls_in x es ≡ calls_in x (drop n es) ++ calls_in x (take n es)
calls_split x Prim.Native.Nat.zero es = sym (whole (calls_in x es))
  where
    whole : (xs : List Call) → xs ++ [] ≡ xs
    whole [] = refl
    whole (c ∷ xs) = ap (λ ys. c ∷ ys) (whole xs)
calls_split x (suc n) [] = refl
calls_split x (suc n) (e ∷ es) = ap (λ calls. then_call calls (call_of x e.1.seq e.1.pending_message)) (calls_split x n es) ∙ then_append (calls_in x (drop n es)) (calls_in x (take n es)) (call_of x e.1.seq e.1.pending_message)

all_then : (P : Call → Type 0) (calls : List Call) (o : Option Call) → AllByRecursion P calls → ((c : Call) → o ≡ Some c → P c) → AllByRecursion P (then_call calls o)
all_then P calls None h k = h
all_then P calls (Some c) h k = all_append P calls (c ∷ []) h (k c refl, tt)

number_of : (x : Elem) (n : ℕ) (o : Option PendingMessage) (c : Call) → call_of x n o ≡ Some c → c.number ≡ n
number_of x n None c is = cc
number_of x n (Some l) c is = by (same_elem l.to x) is
  where
    by : (b : Bool) → (if b then Some (record { number = n; constructs = l.entry == CONSTRUCT }) else None) ≡ Some c → c.number ≡ n
    by true h = let same : record { number = n; constructs = l.entry == CONSTRUCT } ≡ c = cc in ap (λ (d : Call). d.number) (sym same)
    by false h = cc

-- what is so of all sequence numbers is so of the numbers of calls
pub all_calls : (P : ℕ → Type 0) (x : Elem) (es : Envelopes) → AllByRecursion P (seqs es) → AllByRecursion (λ (c : Call). P c.number) (calls_in x es)
all_calls P x [] h = tt
all_calls P x (e ∷ es) h = all_then (λ (c : Call). P c.number) (calls_in x es) (call_of x e.1.seq e.1.pending_message) (all_calls P x es h.1) (λ c is. subst P (sym (number_of x e.1.seq e.1.pending_message c is)) h.0)

first_part : (P : Call → Type 0) (xs ys : List Call) → AllByRecursion P (xs ++ ys) → AllByRecursion P xs
first_part P [] ys h = tt
first_part P (x ∷ xs) ys h = (h.0, first_part P xs ys h.1)

none_of : (y : ℕ) (calls : List Call) → AllByRecursion (λ (c : Call). c.number ≤ y) calls → AllByRecursion (λ (c : Call). y < c.number) calls → calls ≡ []
none_of y [] h k = refl
none_of y (c ∷ calls) h k = absurd (omega (arith, h.0, k.0))

drop_seqs : (n : ℕ) (es : Envelopes) → seqs (drop n es) ≡ drop n (seqs es)
drop_seqs Prim.Native.Nat.zero es = refl
drop_seqs (suc n) [] = refl
drop_seqs (suc n) (e ∷ es) = drop_seqs n es

-- where none is younger than one, all are before the place behind its sequence number
pub calls_before : (x : Elem) (y n : ℕ) (es : Envelopes) → AllByRecursion (λ (c : Call). c.number ≤ y) (calls_in x es) → AllAfter y (drop n (seqs es)) → calls_in x es ≡ calls_in x (take n es)
calls_before x y n es young after =
    let split = calls_split x n es in
    let none = none_of y (calls_in x (drop n es)) (first_part (λ (c : Call). c.number ≤ y) (calls_in x (drop n es)) (calls_in x (take n es)) (subst (AllByRecursion (λ (c : Call). c.number ≤ y)) split young))
    (all_calls (λ m. y < m) x (drop n es) (subst (AllAfter y) (sym (drop_seqs n es)) after)) in
    split ∙ ap (λ calls. calls ++ calls_in x (take n es)) none

-- ---- a pending message that is taken

abbrev pub bit : Bool → ℕ
bit true = 1
bit false = 0

abbrev one_or_none : Option Call → ℕ
one_or_none None = 0
one_or_none (Some c) = 1

at_most_one : (o : Option Call) → one_or_none o ≤ 1
at_most_one None = let none : one_or_none None ≡ 0 = refl in omega (arith, none)
at_most_one (Some c) = let one : one_or_none (Some c) ≡ 1 = refl in omega (arith, one)

length_then : (calls : List Call) (o : Option Call) → length (then_call calls o) ≡ length calls + one_or_none o
length_then calls None = let none : one_or_none None ≡ 0 = refl in omega arith
length_then calls (Some c) = let one : one_or_none (Some c) ≡ 1 = refl in let more = length_last calls in omega arith
  where
    length_last : (xs : List Call) → length (xs ++ c ∷ []) ≡ length xs + 1
    length_last [] = refl
    length_last (d ∷ xs) = let more = length_last xs in omega (arith, more)

call_taken : (x : Elem) (n : ℕ) (l : PendingMessage) → one_or_none (call_of x n (Some l)) ≡ bit (same_elem l.to x)
call_taken x n l = by (same_elem l.to x)
  where
    by : (b : Bool) → one_or_none (if b then Some (record { number = n; constructs = l.entry == CONSTRUCT }) else None) ≡ bit b
    by true = refl
    by false = refl

pub calls_taken : (x : Elem) (es : Envelopes) (i : ℕ) (id : MsgId) (t : Taking) → slice_get es i ≡ Some (id, envelope_before t) → length (calls_in x (set_value_at es i (envelope_after t))) + bit (same_elem t.pending_message.to x) ≡ length (calls_in x es)
calls_taken x [] i id t at = cc
calls_taken x (e ∷ es) Prim.Native.Nat.zero id t at =
    let same : e ≡ (id, envelope_before t) = cc in
    subst (λ (f : MsgId × Envelope). length (calls_in x es) + bit (same_elem t.pending_message.to x) ≡ length (then_call (calls_in x es) (call_of x f.1.seq f.1.pending_message))) (sym same)
    (ap (λ b. length (calls_in x es) + b) (sym (call_taken x t.seq t.pending_message)) ∙ sym (length_then (calls_in x es) (call_of x t.seq (Some t.pending_message))))
calls_taken x (e ∷ es) (suc i) id t at =
    let more = calls_taken x es i id t at in
    let o = call_of x e.1.seq e.1.pending_message in
    let one = length_then (calls_in x (set_value_at es i (envelope_after t))) o in
    let two = length_then (calls_in x es) o in
    omega (arith, more, one, two)

-- those of others stay
pub calls_left : (x : Elem) (es : Envelopes) (i : ℕ) (id : MsgId) (t : Taking) → slice_get es i ≡ Some (id, envelope_before t) → same_elem t.pending_message.to x ≡ false → calls_in x (set_value_at es i (envelope_after t)) ≡ calls_in x es
calls_left x [] i id t at other = cc
calls_left x (e ∷ es) Prim.Native.Nat.zero id t at other =
    let same : e ≡ (id, envelope_before t) = cc in
    subst (λ (f : MsgId × Envelope). calls_in x es ≡ then_call (calls_in x es) (call_of x f.1.seq f.1.pending_message)) (sym same)
    (rw other refl)
calls_left x (e ∷ es) (suc i) id t at other = ap (λ calls. then_call calls (call_of x e.1.seq e.1.pending_message)) (calls_left x es i id t at other)

-- and none comes
pub all_taken : (P : Call → Type 0) (x : Elem) (es : Envelopes) (i : ℕ) (id : MsgId) (t : Taking) → slice_get es i ≡ Some (id, envelope_before t) → AllByRecursion P (calls_in x es) → AllByRecursion P (calls_in x (set_value_at es i (envelope_after t)))
all_taken P x [] i id t at h = cc
all_taken P x (e ∷ es) Prim.Native.Nat.zero id t at h = start (calls_in x es) (call_of x e.1.seq e.1.pending_message) h
  where
    start : (calls : List Call) (o : Option Call) → AllByRecursion P (then_call calls o) → AllByRecursion P calls
    start calls None h = h
    start calls (Some c) h = first_part P calls (c ∷ []) h
all_taken P x (e ∷ es) (suc i) id t at h = by (all_taken P x es i id t at) (call_of x e.1.seq e.1.pending_message) h
  where
    last_part : (xs : List Call) (c : Call) → AllByRecursion P (xs ++ c ∷ []) → P c
    last_part [] c h = h.0
    last_part (d ∷ xs) c h = last_part xs c h.1

    by : (AllByRecursion P (calls_in x es) → AllByRecursion P (calls_in x (set_value_at es i (envelope_after t)))) → (o : Option Call) → AllByRecursion P (then_call (calls_in x es) o) → AllByRecursion P (then_call (calls_in x (set_value_at es i (envelope_after t))) o)
    by more None h = more h
    by more (Some c) h = all_append P (calls_in x (set_value_at es i (envelope_after t))) (c ∷ []) (more (first_part P (calls_in x es) (c ∷ []) h)) (last_part (calls_in x es) c h, tt)

-- there are at most as many calls as envelopes
pub few_calls_in : (x : Elem) (es : Envelopes) → length (calls_in x es) ≤ length es
few_calls_in x [] = omega arith
few_calls_in x (e ∷ es) = by (few_calls_in x es) (call_of x e.1.seq e.1.pending_message)
  where
    by : length (calls_in x es) ≤ length es → (o : Option Call) → length (then_call (calls_in x es) o) ≤ length (e ∷ es)
    by h o = let one = length_then (calls_in x es) o in let few = at_most_one o in omega (arith, h, one, few)

-- ---- as the messages say it

pub calls_are : (x : Elem) (es : Envelopes) → calls_in x es ≡ calls_down x (seq_nos_of es) (live (pending_messages es))
calls_are x [] = refl
calls_are x (e ∷ es) =
    ap (λ calls. then_call calls (call_of x e.1.seq e.1.pending_message)) (calls_are x es)
    ∙ elim e.1.pending_message as (λ o. then_call (calls_down x (seq_nos_of es) (live (pending_messages es))) (call_of x e.1.seq o) ≡ calls_down x (with_seq_no e.1.seq o (seq_nos_of es)) (with_pending_message e.0 o (live (pending_messages es)))) [
      | None ↦ refl
      | Some l ↦ by l (calls_down x (seq_nos_of es) (live (pending_messages es))) (same_elem l.to x)
    ]
  where
    by : (l : PendingMessage) (calls : List Call) (b : Bool) → then_call calls (if b then Some (record { number = e.1.seq; constructs = l.entry == CONSTRUCT }) else None) ≡ (if b then calls ++ record { number = e.1.seq; constructs = l.entry == CONSTRUCT } ∷ [] else calls)
    by l calls true = refl
    by l calls false = refl

-- ---- ids

live_apart : (id : MsgId) (es : Envelopes) → AllByRecursion (λ k. same_id id k ≡ false) (keys_of es) → AllByRecursion (λ (m : Message). same_id id m.id ≡ false) (live (pending_messages es))
live_apart id [] h = tt
live_apart id (e ∷ es) h = elim e.1.pending_message as (λ o. AllByRecursion (λ (m : Message). same_id id m.id ≡ false) (with_pending_message e.0 o (live (pending_messages es)))) [
  | None ↦ live_apart id es h.1
  | Some l ↦ (h.0, live_apart id es h.1)
]

distinct_by : (es : Envelopes) → IsDistinct same_id (keys_of es) → AreDistinct (live (pending_messages es))
unfolding IsDistinct
distinct_by [] h = tt
distinct_by (e ∷ es) h = elim e.1.pending_message as (λ o. AreDistinct (with_pending_message e.0 o (live (pending_messages es)))) [
  | None ↦ distinct_by es h.1
  | Some l ↦ (live_apart e.0 es h.0, distinct_by es h.1)
]

pub live_distinct : (es : Envelopes) → IsDistinct table_eq (keys_of es) → AreDistinct (live (pending_messages es))
live_distinct es = subst (λ eq. IsDistinct eq (keys_of es) → AreDistinct (live (pending_messages es))) (sym table_eq-is) (distinct_by es)
