-- Where the entry of an id stands in a table of pending messages.
use Rattle.std.proofs.Common.{◌≡◌, ℕ, ◌+◌, ◌<◌, suc, true, false, cond, not, nat_lt, List, [], ◌∷◌, length, refl, sym, ap, subst, ◌∙◌, slice_get, arith, rules}
use Rattle.std.proofs.lemmas.Bool.{ltb-true}
use Rattle.std.specs.Prelude.{Option, Some, None, IfSome, position, unwrap_or}
use Rattle.std.specs.Cmp.{nat_eq_equiv}
use Rattle.std.specs.Cmp.Derive.{both_true}
use Rattle.std.specs.List.{AllByRecursion, IsDistinct, position_or_len}
use Rattle.std.specs.Map.{keys_of, lookup, set_value}
use Rattle.indexmap.specs.IndexMap.{set_value_at}
use Rattle.charmlet_model.specs.declared.names.Origin.{Origin}
use Rattle.charmlet_model.specs.declared.names.Origin.TheVariants.{Client, Element}
use Rattle.charmlet_model.specs.declared.names.MsgId.{MsgId}
use Rattle.charmlet_model.specs.Names.{same_id, same_origin}
use Rattle.charmlet_model.proofs.Fits.{same_id-is}
use Rattle.charmlet_world.specs.Ids.{table_eq}
use Rattle.charmlet_world.specs.Waiting.{IsAt}
use Rattle.charmlet_world.specs.declared.envelope.Envelope.{Envelope}
use Rattle.charmlet_world.proofs.Ids.{table_eq-is}

same_origin-itself : (a : Origin) → same_origin a a ≡ true
same_origin-itself (Client c) = nat_eq_equiv.refl c
same_origin-itself (Element x) = both_true (nat_eq_equiv.refl x.array) (nat_eq_equiv.refl x.index)

pub same_id-itself : (a : MsgId) → same_id a a ≡ true
same_id-itself a = both_true (same_origin-itself a.origin) (nat_eq_equiv.refl a.number)

-- an id that is apart from all others is apart from the one at an index
apart_at : {V : Type 0} (k : MsgId) (es : List (MsgId × V)) (i : ℕ) (id : MsgId) (o : V) → AllByRecursion (λ j. same_id k j ≡ false) (keys_of es) → slice_get es i ≡ Some (id, o) → same_id k id ≡ false
apart_at k [] i id o h at = absurd (let no : ⊥ = cc in no)
apart_at k (e ∷ es) Prim.Native.Nat.zero id o h at = subst (λ f. same_id k f.0 ≡ false) (λ j. unwrap_or (at j) (id, o)) h.0
apart_at k (e ∷ es) (suc i) id o h at = apart_at k es i id o h.1 at

-- and so no later entry is the first one's
other_way : (k id : MsgId) → same_id k id ≡ false → same_id id k ≡ false
other_way k id apart =
    elim (same_id id k) as (λ b. same_id id k ≡ b → b ≡ false) [
      | true ↦ λ same. absurd (let no : false ≡ true = sym apart ∙ ap (same_id k) (same_id-is id k same) ∙ same_id-itself k in let never : ⊥ = cc in never)
      | false ↦ λ _. refl
    ] refl

module _ {V : Type 0} (id : MsgId) (o : V) where
  -- where the id's entry is, there is what a look-up of the id gives
  found_at : (es : List (MsgId × V)) (i : ℕ) → IsDistinct same_id (keys_of es) → slice_get es i ≡ Some (id, o) → lookup (same_id id) es ≡ Some o
  unfolding IsDistinct
  found_at [] i h at = absurd (let no : ⊥ = cc in no)
  found_at ((k, p) ∷ es) Prim.Native.Nat.zero h at =
      let key : k ≡ id = λ j. (unwrap_or (at j) (id, o)).0 in
      rw (ap (same_id id) key ∙ same_id-itself id) (λ j. Some (unwrap_or (at j) (id, o)).1)
  found_at ((k, p) ∷ es) (suc i) h at = rw (other_way k id (apart_at k es i id o h.0 at)) (found_at es i h.1 at)

  -- and what is put there is put under the id
  put_at : (w : V) (es : List (MsgId × V)) (i : ℕ) → IsDistinct same_id (keys_of es) → slice_get es i ≡ Some (id, o) → set_value_at es i w ≡ set_value (same_id id) es w
  unfolding IsDistinct
  put_at w [] i h at = absurd (let no : ⊥ = cc in no)
  put_at w ((k, p) ∷ es) Prim.Native.Nat.zero h at =
      let key : k ≡ id = λ j. (unwrap_or (at j) (id, o)).0 in
      rw (ap (same_id id) key ∙ same_id-itself id) refl
  put_at w ((k, p) ∷ es) (suc i) h at = rw (other_way k id (apart_at k es i id o h.0 at)) (ap (λ fs. (k, p) ∷ fs) (put_at w es i h.1 at))

  pub found_at_index : (es : List (MsgId × V)) (i : ℕ) → IsDistinct table_eq (keys_of es) → slice_get es i ≡ Some (id, o) → lookup (table_eq id) es ≡ Some o
  found_at_index es i = subst (λ eq. IsDistinct eq (keys_of es) → slice_get es i ≡ Some (id, o) → lookup (eq id) es ≡ Some o) (sym table_eq-is) (found_at es i)

  pub put_at_index : (w : V) (es : List (MsgId × V)) (i : ℕ) → IsDistinct table_eq (keys_of es) → slice_get es i ≡ Some (id, o) → set_value_at es i w ≡ set_value (table_eq id) es w
  put_at_index w es i = subst (λ eq. IsDistinct eq (keys_of es) → slice_get es i ≡ Some (id, o) → set_value_at es i w ≡ set_value (eq id) es w) (sym table_eq-is) (put_at w es i)

-- the first entry that passes is the id's
at_first : (id : MsgId) (es : List (MsgId × Envelope)) → position_or_len (same_id id) (keys_of es) < length (keys_of es) → IsAt es (position_or_len (same_id id) (keys_of es)) id
at_first id [] h = absurd (omega arith)
at_first id (e ∷ es) h =
    let p = position_or_len (same_id id) (keys_of es) in
    elim (same_id id e.0) as (λ b. same_id id e.0 ≡ b → cond (not b) (1 + p) 0 < length (keys_of (e ∷ es)) → IsAt (e ∷ es) (cond (not b) (1 + p) 0) id) [
      | true ↦ λ same _. (e.1, let key = same_id-is id e.0 same in λ j. Some (sym key j, e.1))
      | false ↦ λ _ less. let step : suc p ≡ 1 + p = omega arith in subst (λ k. IsAt (e ∷ es) k id) step (at_first id es (omega arith))
    ] refl h

first_place : (p n i : ℕ) → cond (nat_lt p n) (Some p) None ≡ Some i → (p ≡ i) × (p < n)
first_place p n i is =
    elim (nat_lt p n) as (λ b. nat_lt p n ≡ b → cond b (Some p) None ≡ Some i → (p ≡ i) × (p < n)) [
      | true ↦ λ less here. ((let same : p ≡ i = cc in same), ltb-true p n less)
      | false ↦ λ _ none. absurd (let no : ⊥ = cc in no)
    ] refl is

at_position : (id : MsgId) (es : List (MsgId × Envelope)) (i : ℕ) → position (same_id id) (keys_of es) ≡ Some i → IsAt es i id
at_position id es i is =
    let first = first_place (position_or_len (same_id id) (keys_of es)) (length (keys_of es)) i is in
    subst (λ k. IsAt es k id) first.0 (at_first id es first.1)

-- the index that a table finds
pub at_index : (id : MsgId) (es : List (MsgId × Envelope)) (i : ℕ) → position (table_eq id) (keys_of es) ≡ Some i → IsAt es i id
at_index id es i = subst (λ eq. position (eq id) (keys_of es) ≡ Some i → IsAt es i id) (sym table_eq-is) (at_position id es i)

pub found_index : (id : MsgId) (es : List (MsgId × Envelope)) (r : Option ℕ) → r ≡ position (table_eq id) (keys_of es) → IfSome r (λ i. IsAt es i id)
found_index id es None h = search rules
found_index id es (Some i) h = at_index id es i (sym h)

-- two that stand there are one
pub one_there : {V : Type 0} (id key : MsgId) (o p : V) (es : List (MsgId × V)) (i : ℕ) → slice_get es i ≡ Some (id, o) → slice_get es i ≡ Some (key, p) → o ≡ p
one_there id key o p es i here there = λ j. (unwrap_or ((sym here ∙ there) j) (id, o)).1

pub table_eq-same : (a b : MsgId) → table_eq a b ≡ true → a ≡ b
table_eq-same a b h = same_id-is a b (sym (ap (λ eq. eq a b) table_eq-is) ∙ h)
