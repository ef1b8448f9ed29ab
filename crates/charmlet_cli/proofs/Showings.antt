-- What is shown of a store.
use Rattle.std.proofs.Common.{◌≡◌, refl}
use Rattle.std.specs.Prelude.{Option, Some, None, IsSome}

pub is_some_unless : {A : Type 0} (o : Option A) → (o ≡ None → ⊥) → IsSome o
is_some_unless None there = absurd (there refl)
is_some_unless (Some x) there = refl
