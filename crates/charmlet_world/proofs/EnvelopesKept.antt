-- What a call makes of a table of envelopes.
use Rattle.std.proofs.Common.{◌≡◌, ℕ, ◌+◌, ◌<◌, ◌≤◌, suc, Bool, true, false, List, [], ◌∷◌, ◌++◌, length, take, filter, refl, sym, ap, subst, ◌∙◌, arith, slice_get, if◌then◌else◌}
use Rattle.std.specs.Prelude.{Option, Some, None, is_some, option_map, ◌==◌}
use Rattle.std.specs.List.{AllByRecursion, IsDistinct}
use Rattle.std.specs.Map.{keys_of, lookup, set_value}
use Rattle.indexmap.specs.IndexMap.{set_value_at}
use Rattle.charmlet_model.specs.declared.names.Elem.{Elem}
use Rattle.charmlet_model.specs.declared.names.MsgId.{MsgId}
use Rattle.charmlet_model.specs.declared.TheConstants.{CONSTRUCT}
use Rattle.charmlet_model.specs.Names.{same_elem}
use Rattle.charmlet_model.specs.World.{message_among, without}
use Rattle.charmlet_model.proofs.Maps.{same_from_test}
use Rattle.charmlet_ready_queue.specs.SeqNos.SeqNos.{AllBefore, Climbs}
use Rattle.charmlet_ready_queue.proofs.SeqNosLemmas.Rising.{all_append, all_weaker, climbs_last}
use Rattle.charmlet_ready_queue.specs.declared.index.chain.Call.{Call}
use Rattle.charmlet_world.specs.declared.pending_message.PendingMessage.{PendingMessage}
use Rattle.charmlet_world.specs.declared.pending.Taking.{Taking}
use Rattle.charmlet_world.specs.declared.receivers.Receiver.{Receiver}
use Rattle.charmlet_world.specs.declared.envelope.Envelope.{Envelope}
use Rattle.charmlet_world.specs.Ids.{table_eq}
use Rattle.charmlet_world.specs.Envelopes.{AreEnvelopes, IsCounted, call_of, calls_in, receiver_in, envelope_after, envelope_before}
use Rattle.charmlet_world.specs.Waiting.{Counts, seqs, pending_messages, live, message_of}
use Rattle.charmlet_world.proofs.Holes.{fewer_in, found_in, left_in, message_at, none_left, one_more, still_before_in}
use Rattle.charmlet_world.proofs.Indices.{found_at_index, put_at_index}
use Rattle.charmlet_world.proofs.PendingMessages.{Envelopes, append_pending_messages, filter_pending_messages, keys_same, lookup_pending_messages, set_pending_messages}
use Rattle.charmlet_world.proofs.Enveloped.{all_calls, all_taken, below_swept, bit, seqs_append, seqs_taken, calls_append, calls_left, calls_swept, calls_taken, climbs_swept, first_call}
use Rattle.charmlet_world.proofs.Ties.{same_itself}

-- the holes are closed
pub envelopes_swept : (es : Envelopes) (holes start next : ℕ) (rs : List (Elem × Receiver)) → AreEnvelopes es holes start next rs → AreEnvelopes (filter (λ e. is_some e.1.pending_message) es) 0 0 next rs
envelopes_swept es holes start next rs h = record {
  counts = subst (λ ls. Counts ls 0 0) (sym (filter_pending_messages es)) (none_left (pending_messages es));
  climbs = climbs_swept es h.climbs;
  below = below_swept next es h.below;
  counted = λ x. subst (IsCounted (receiver_in rs x)) (sym (calls_swept x es)) (h.counted x);
}

-- ---- a message that comes

module _ (es : Envelopes) (id : MsgId) (s : Envelope) (l : PendingMessage) (is : s.pending_message ≡ Some l) (old new : List (Elem × Receiver))
    (count : (receiver_in new l.to).count ≡ (receiver_in old l.to).count + 1)
    (youngest : (receiver_in new l.to).youngest ≡ s.seq)
    (others : (y : Elem) → same_elem l.to y ≡ false → receiver_in new y ≡ receiver_in old y) where
  counted_one : (x : Elem) → AllBefore s.seq (seqs es) → IsCounted (receiver_in old x) (calls_in x es) → IsCounted (receiver_in new x) (calls_in x (es ++ (id, s) ∷ []))
  counted_one x below was =
      subst (IsCounted (receiver_in new x)) (sym (calls_append x es id s ∙ ap (λ o. first_call (call_of x s.seq o) (calls_in x es)) is))
      (by (same_elem l.to x) refl)
    where
      by : (b : Bool) → same_elem l.to x ≡ b → IsCounted (receiver_in new x) (first_call (if same_elem l.to x then Some (record { number = s.seq; constructs = l.entry == CONSTRUCT }) else None) (calls_in x es))
      by true e =
          let at : l.to ≡ x = same_from_test l.to x e in
          let counts : (receiver_in new x).count ≡ (receiver_in old x).count + 1 = subst (λ y. (receiver_in new y).count ≡ (receiver_in old y).count + 1) at count in
          let young : (receiver_in new x).youngest ≡ s.seq = subst (λ y. (receiver_in new y).youngest ≡ s.seq) at youngest in
          rw e (record {
            count = let n = was.count in omega (arith, n, counts);
            youngest = (
              omega (arith, young),
              all_weaker (λ (c : Call). c.number < s.seq) (λ (c : Call). c.number ≤ (receiver_in new x).youngest) (λ c less. omega (arith, less, young)) (calls_in x es) (all_calls (λ m. m < s.seq) x es below),
            );
          })
      by false e = rw e (subst (λ (r : Receiver). IsCounted r (calls_in x es)) (sym (others x e)) was)

  pub envelopes_pushed : (holes start next : ℕ) → next ≤ s.seq → AreEnvelopes es holes start next old → AreEnvelopes (es ++ (id, s) ∷ []) holes start (s.seq + 1) new
  envelopes_pushed holes start next last h =
      let below : AllBefore s.seq (seqs es) = all_weaker (λ m. m < next) (λ m. m < s.seq) (λ m less. omega (arith, less, last)) (seqs es) h.below in
      record {
        counts = subst (λ ls. Counts ls holes start) (sym (append_pending_messages es ((id, s) ∷ []) ∙ ap (λ o. pending_messages es ++ (id, o) ∷ []) is)) (one_more (pending_messages es) holes start id l h.counts);
        climbs = subst Climbs (sym (seqs_append es id s)) (climbs_last (seqs es) s.seq h.climbs below);
        below = subst (AllBefore (s.seq + 1)) (sym (seqs_append es id s)) (all_append (λ m. m < s.seq + 1) (seqs es) (s.seq ∷ []) (all_weaker (λ m. m < s.seq) (λ m. m < s.seq + 1) (λ m less. omega (arith, less)) (seqs es) below) (omega arith, tt));
        counted = λ x. counted_one x below (h.counted x);
      }

-- ---- a message that leaves

module _ (es : Envelopes) (i : ℕ) (id : MsgId) (t : Taking) (distinct : IsDistinct table_eq (keys_of es)) (at : slice_get es i ≡ Some (id, envelope_before t)) where
  abbrev left : Envelopes
  left = set_value_at es i (envelope_after t)

  distinct_pending_messages : IsDistinct table_eq (keys_of (pending_messages es))
  distinct_pending_messages = subst (IsDistinct table_eq) (sym (keys_same es)) distinct

  set_is : pending_messages left ≡ set_value (table_eq id) (pending_messages es) None
  set_is = ap pending_messages (put_at_index id (envelope_before t) (envelope_after t) es i distinct at) ∙ set_pending_messages (table_eq id) (envelope_after t) es

  found_is : lookup (table_eq id) (pending_messages es) ≡ Some (Some t.pending_message)
  found_is = lookup_pending_messages (table_eq id) es ∙ ap (λ (o : Option Envelope). option_map (λ (s : Envelope). s.pending_message) o) (found_at_index id (envelope_before t) es i distinct at)

  pub message_was : message_among id (live (pending_messages es)) ≡ Some (message_of id t.pending_message)
  message_was = found_in id (pending_messages es) distinct_pending_messages ∙ ap (message_at id) found_is

  pub messages_left : live (pending_messages left) ≡ without id (live (pending_messages es))
  messages_left = ap live set_is ∙ left_in id (pending_messages es) distinct_pending_messages

  counts_left : length (live (pending_messages left)) + 1 ≡ length (live (pending_messages es))
  counts_left = ap (λ ls. length (live ls) + 1) set_is ∙ fewer_in id (pending_messages es) t.pending_message found_is

  length_left : length (pending_messages left) ≡ length (pending_messages es)
  length_left = ap length set_is ∙ same_length (pending_messages es)
    where
      same_length : (ls : List (MsgId × Option PendingMessage)) → length (set_value (table_eq id) ls None) ≡ length ls
      same_length [] = refl
      same_length (e ∷ ls) = elim (table_eq id e.0) as (λ b. length (if b then (e.0, None) ∷ ls else e ∷ set_value (table_eq id) ls None) ≡ suc (length ls)) [
        | true ↦ refl
        | false ↦ ap suc (same_length ls)
      ]

  -- before the start there are still only holes
  pub before_left : (n : ℕ) → live (take n (pending_messages es)) ≡ [] → live (take n (pending_messages left)) ≡ []
  before_left n h = ap (λ ls. live (take n ls)) set_is ∙ still_before_in id (pending_messages es) n h

  module _ (old new : List (Elem × Receiver))
      (count : (receiver_in new t.pending_message.to).count + 1 ≡ (receiver_in old t.pending_message.to).count)
      (youngest : (receiver_in new t.pending_message.to).youngest ≡ (receiver_in old t.pending_message.to).youngest)
      (others : (y : Elem) → same_elem t.pending_message.to y ≡ false → receiver_in new y ≡ receiver_in old y) where
    counted_less : (x : Elem) → IsCounted (receiver_in old x) (calls_in x es) → IsCounted (receiver_in new x) (calls_in x left)
    counted_less x was = by (same_elem t.pending_message.to x) refl
      where
        by : (b : Bool) → same_elem t.pending_message.to x ≡ b → IsCounted (receiver_in new x) (calls_in x left)
        by true e =
            let to : t.pending_message.to ≡ x = same_from_test t.pending_message.to x e in
            let counts : (receiver_in new x).count + 1 ≡ (receiver_in old x).count = subst (λ y. (receiver_in new y).count + 1 ≡ (receiver_in old y).count) to count in
            let young : (receiver_in new x).youngest ≡ (receiver_in old x).youngest = subst (λ y. (receiver_in new y).youngest ≡ (receiver_in old y).youngest) to youngest in
            let fewer : length (calls_in x left) + 1 ≡ length (calls_in x es) = ap (λ b. length (calls_in x left) + bit b) (sym e) ∙ calls_taken x es i id t at in
            record {
              count = let n = was.count in omega (arith, n, counts, fewer);
              youngest = subst (λ y. AllByRecursion (λ (c : Call). c.number ≤ y) (calls_in x left)) (sym young) (all_taken (λ (c : Call). c.number ≤ (receiver_in old x).youngest) x es i id t at was.youngest);
            }
        by false e = subst (λ (r : Receiver). IsCounted r (calls_in x left)) (sym (others x e)) (subst (IsCounted (receiver_in old x)) (sym (calls_left x es i id t at e)) was)

    pub envelopes_left : (holes start end next : ℕ) → AreEnvelopes es holes start next old → end ≤ length (pending_messages left) → live (take end (pending_messages left)) ≡ [] → AreEnvelopes left (holes + 1) end next new
    envelopes_left holes start end next h within before = record {
      counts = record {
        counted = let was = h.counts.counted in let one = counts_left in let len = length_left in omega (arith, was, one, len);
        within = within;
        before = before;
      };
      climbs = subst Climbs (sym (seqs_taken es i id t at)) h.climbs;
      below = subst (AllBefore next) (sym (seqs_taken es i id t at)) h.below;
      counted = λ x. counted_less x (h.counted x);
    }

-- one that leaves was counted
pub some_counted : (es : Envelopes) (i : ℕ) (id : MsgId) (t : Taking) (r : Receiver) → slice_get es i ≡ Some (id, envelope_before t) → IsCounted r (calls_in t.pending_message.to es) → 0 < r.count
some_counted es i id t r at h =
    let one : length (calls_in t.pending_message.to (set_value_at es i (envelope_after t))) + 1 ≡ length (calls_in t.pending_message.to es) = ap (λ b. length (calls_in t.pending_message.to (set_value_at es i (envelope_after t))) + bit b) (sym (same_itself t.pending_message.to)) ∙ calls_taken t.pending_message.to es i id t at in
    let n = h.count in
    omega (arith, n, one)
