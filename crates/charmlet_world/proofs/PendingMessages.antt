-- The pending messages of envelopes.
use Rattle.std.proofs.Common.{◌≡◌, ℕ, suc, Bool, true, false, List, [], ◌∷◌, ◌++◌, length, take, drop, filter, refl, sym, ap, slice_get, if◌then◌else◌}
use Rattle.std.specs.Prelude.{Some, is_some, option_map}
use Rattle.std.specs.Map.{keys_of, values_of, lookup, set_value}
use Rattle.indexmap.specs.IndexMap.{set_value_at}
use Rattle.charmlet_model.specs.declared.names.MsgId.{MsgId}
use Rattle.charmlet_world.specs.declared.envelope.Envelope.{Envelope}
use Rattle.charmlet_world.specs.Waiting.{pending_messages}

abbrev pub Envelopes : Type 0
Envelopes = List (MsgId × Envelope)

pub keys_same : (es : Envelopes) → keys_of (pending_messages es) ≡ keys_of es
keys_same [] = refl
keys_same (e ∷ es) = ap (λ ks. e.0 ∷ ks) (keys_same es)

pub lookup_pending_messages : (p : MsgId → Bool) (es : Envelopes) → lookup p (pending_messages es) ≡ option_map (λ (s : Envelope). s.pending_message) (lookup p es)
lookup_pending_messages p [] = refl
lookup_pending_messages p (e ∷ es) = elim (p e.0) as (λ b. (if b then Some e.1.pending_message else lookup p (pending_messages es)) ≡ option_map (λ (s : Envelope). s.pending_message) (if b then Some e.1 else lookup p es)) [
  | true ↦ refl
  | false ↦ lookup_pending_messages p es
]

pub set_pending_messages : (p : MsgId → Bool) (w : Envelope) (es : Envelopes) → pending_messages (set_value p es w) ≡ set_value p (pending_messages es) w.pending_message
set_pending_messages p w [] = refl
set_pending_messages p w (e ∷ es) = elim (p e.0) as (λ b. pending_messages (if b then (e.0, w) ∷ es else e ∷ set_value p es w) ≡ (if b then (e.0, w.pending_message) ∷ pending_messages es else (e.0, e.1.pending_message) ∷ set_value p (pending_messages es) w.pending_message)) [
  | true ↦ refl
  | false ↦ ap (λ fs. (e.0, e.1.pending_message) ∷ fs) (set_pending_messages p w es)
]

pub filter_pending_messages : (es : Envelopes) → pending_messages (filter (λ e. is_some e.1.pending_message) es) ≡ filter (λ e. is_some e.1) (pending_messages es)
filter_pending_messages [] = refl
filter_pending_messages (e ∷ es) = elim (is_some e.1.pending_message) as (λ b. pending_messages (if b then e ∷ filter (λ f. is_some f.1.pending_message) es else filter (λ f. is_some f.1.pending_message) es) ≡ (if b then (e.0, e.1.pending_message) ∷ filter (λ f. is_some f.1) (pending_messages es) else filter (λ f. is_some f.1) (pending_messages es))) [
  | true ↦ ap (λ fs. (e.0, e.1.pending_message) ∷ fs) (filter_pending_messages es)
  | false ↦ filter_pending_messages es
]

pub append_pending_messages : (es fs : Envelopes) → pending_messages (es ++ fs) ≡ pending_messages es ++ pending_messages fs
append_pending_messages [] fs = refl
append_pending_messages (e ∷ es) fs = ap (λ gs. (e.0, e.1.pending_message) ∷ gs) (append_pending_messages es fs)

pub take_pending_messages : (n : ℕ) (es : Envelopes) → pending_messages (take n es) ≡ take n (pending_messages es)
take_pending_messages Prim.Native.Nat.zero es = refl
take_pending_messages (suc n) [] = refl
take_pending_messages (suc n) (e ∷ es) = ap (λ gs. (e.0, e.1.pending_message) ∷ gs) (take_pending_messages n es)

pub drop_pending_messages : (n : ℕ) (es : Envelopes) → pending_messages (drop n es) ≡ drop n (pending_messages es)
drop_pending_messages Prim.Native.Nat.zero es = refl
drop_pending_messages (suc n) [] = refl
drop_pending_messages (suc n) (e ∷ es) = drop_pending_messages n es

pub length_pending_messages : (es : Envelopes) → length (pending_messages es) ≡ length es
length_pending_messages [] = refl
length_pending_messages (e ∷ es) = ap suc (length_pending_messages es)

pub at_pending_messages : (es : Envelopes) (i : ℕ) (id : MsgId) (s : Envelope) → slice_get es i ≡ Some (id, s) → slice_get (pending_messages es) i ≡ Some (id, s.pending_message)
at_pending_messages [] i id s at = cc
at_pending_messages (e ∷ es) Prim.Native.Nat.zero id s at = let same : e ≡ (id, s) = cc in ap (λ (f : MsgId × Envelope). Some (f.0, f.1.pending_message)) same
at_pending_messages (e ∷ es) (suc i) id s at = at_pending_messages es i id s at

pub value_pending_messages : (es : Envelopes) (i : ℕ) (s : Envelope) → slice_get (values_of es) i ≡ Some s → slice_get (values_of (pending_messages es)) i ≡ Some s.pending_message
value_pending_messages [] i s at = cc
value_pending_messages (e ∷ es) Prim.Native.Nat.zero s at = let same : e.1 ≡ s = cc in ap (λ (t : Envelope). Some t.pending_message) same
value_pending_messages (e ∷ es) (suc i) s at = value_pending_messages es i s at

-- what is put there again was there
pub set_same : (es : Envelopes) (i : ℕ) (id : MsgId) (s : Envelope) → slice_get es i ≡ Some (id, s) → set_value_at es i s ≡ es
set_same [] i id s at = cc
set_same (e ∷ es) Prim.Native.Nat.zero id s at = let same : e ≡ (id, s) = cc in ap (λ (f : MsgId × Envelope). (e.0, f.1) ∷ es) (sym same)
set_same (e ∷ es) (suc i) id s at = ap (λ fs. e ∷ fs) (set_same es i id s at)
