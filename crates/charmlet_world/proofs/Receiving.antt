-- What is kept of the receivers of messages.
use Rattle.std.proofs.Common.{◌≡◌, ℕ, suc, Bool, true, false, cond, List, [], ◌∷◌, ◌++◌, refl, sym, ap, ◌∙◌, if◌then◌else◌, slice_get}
use Rattle.std.specs.Prelude.{Some, None, unwrap_or}
use Rattle.std.specs.List.{IsDistinct}
use Rattle.std.specs.Map.{keys_of, lookup, values_of}
use Rattle.indexmap.specs.IndexMap.{set_value_at}
use Rattle.charmlet_model.specs.declared.names.Elem.{Elem}
use Rattle.charmlet_model.specs.Names.{same_elem}
use Rattle.charmlet_model.proofs.Maps.{same_from_test}
use Rattle.charmlet_world.specs.declared.receivers.Receiver.{Receiver}
use Rattle.charmlet_world.specs.Envelopes.{no_receiver, receiver_in}
use Rattle.charmlet_world.proofs.Risen.{lookup-append}
use Rattle.charmlet_world.proofs.Rows.{changed}
use Rattle.charmlet_world.proofs.Ties.{same_itself}

abbrev pub Received : Type 0
Received = List (Elem × Receiver)

-- and says what no entry says
pub new_same : (x : Elem) (es : Received) → lookup (same_elem x) es ≡ None → (y : Elem) → receiver_in (es ++ (x, no_receiver) ∷ []) y ≡ receiver_in es y
new_same x es none y =
    ap (λ o. unwrap_or o no_receiver) (lookup-append y es x no_receiver none)
    ∙ elim (same_elem y x) as (λ b. same_elem y x ≡ b → unwrap_or (cond b (Some no_receiver) (lookup (same_elem y) es)) no_receiver ≡ receiver_in es y) [
      | true ↦ λ e. sym (ap (λ z. receiver_in es z) (same_from_test y x e) ∙ ap (λ o. unwrap_or o no_receiver) none)
      | false ↦ λ _. refl
    ] refl

-- a change by index
pub receiver_changed : (x y : Elem) (r w : Receiver) (es : Received) (i : ℕ) → IsDistinct same_elem (keys_of es) → slice_get es i ≡ Some (x, r) → receiver_in (set_value_at es i w) y ≡ (if same_elem x y then w else receiver_in es y)
receiver_changed x y r w es i distinct at =
    ap (λ o. unwrap_or o no_receiver) (changed x y r w es i distinct at)
    ∙ (elim (same_elem x y) as (λ b. unwrap_or (if b then Some w else lookup (same_elem y) es) no_receiver ≡ (if b then w else receiver_in es y)) [ true ↦ refl | false ↦ refl ])

-- what is there is the element's
pub value_is : (x : Elem) (r w : Receiver) (es : Received) (i : ℕ) → slice_get es i ≡ Some (x, r) → slice_get (values_of es) i ≡ Some w → w ≡ r
value_is x r w [] i at is = cc
value_is x r w (e ∷ es) Prim.Native.Nat.zero at is = let same : e ≡ (x, r) = cc in let here : e.1 ≡ w = cc in sym here ∙ ap (λ (f : Elem × Receiver). f.1) same
value_is x r w (e ∷ es) (suc i) at is = value_is x r w es i at is

-- the element's own, after it was changed
pub own_changed : (x : Elem) (w : Receiver) (es fs : Received) → ((y : Elem) → receiver_in fs y ≡ (if same_elem x y then w else receiver_in es y)) → receiver_in fs x ≡ w
own_changed x w es fs h = h x ∙ ap (λ (b : Bool). if b then w else receiver_in es x) (same_itself x)

pub other_changed : (x y : Elem) (w : Receiver) (es fs : Received) → ((y : Elem) → receiver_in fs y ≡ (if same_elem x y then w else receiver_in es y)) → same_elem x y ≡ false → receiver_in fs y ≡ receiver_in es y
other_changed x y w es fs h other = h y ∙ ap (λ (b : Bool). if b then w else receiver_in es y) other
