-- Lists of replayers, of which one changes.
use Rattle.std.proofs.Common.{◌≡◌, ℕ, ◌<◌, ◌==◌, ◌⊎◌, inl, inr, Bool, true, false, List, length, get_or, refl, sym, ap, subst, ◌∙◌}
use Rattle.std.specs.Prelude.{Option, Some, slice_get, slice_set}
use Rattle.std.proofs.lemmas.Bool.{eqb-false, eqb-true}
use Rattle.std.proofs.lemmas.List.{get_or-set_other, get_or-set_same}
use Rattle.std.proofs.lemmas.Option.{get_or_from_slice_get, slice_get_within}

-- what stands at a place once one place was set
pub set_at : {X : Type 0} (xs : List X) (i v : ℕ) (y old new : X) → slice_get xs v ≡ Some old → slice_get (slice_set xs i y) v ≡ Some new → (b : Bool) → (i == v) ≡ b → ((b ≡ true) × (i ≡ v) × (new ≡ y)) ⊎ ((b ≡ false) × (new ≡ old))
set_at xs i v y old new at found true same =
    let is : get_or (slice_set xs i y) v old ≡ new = get_or_from_slice_get (slice_set xs i y) v new old found in
    let eq : i ≡ v = eqb-true i v same in
    let within : i < length xs = subst (λ n. n < length xs) (sym eq) (slice_get_within xs v old at) in
    inl (refl, eq, sym is ∙ ap (λ n. get_or (slice_set xs i y) n old) (sym eq) ∙ get_or-set_same xs i y old within)
set_at xs i v y old new at found false apart =
    let is : get_or (slice_set xs i y) v old ≡ new = get_or_from_slice_get (slice_set xs i y) v new old found in
    inr (refl, sym is ∙ get_or-set_other xs i v y old (λ same. eqb-false i v apart (sym same)) ∙ get_or_from_slice_get xs v old old at)

-- of two at one place there is one
pub same_there : {X : Type 0} (xs : List X) (v : ℕ) (one other : X) → slice_get xs v ≡ Some one → slice_get xs v ≡ Some other → one ≡ other
same_there xs v one other at found = let same : Some one ≡ Some other = sym at ∙ found in cc
