-- What is known of a call that succeeded, or failed.
use Rattle.std.proofs.Common.{◌≡◌, true, false, Result, Ok, Err, OnOk, OnErr, is_err}

pub when_ok : {T E : Type 0} (P : Type 0) (r : Result T E) → is_err r ≡ false → OnOk r P → P
when_ok P (Ok x) is h = h
when_ok P (Err e) is h = absurd (let never : ⊥ = cc in never)

pub when_err : {T E : Type 0} (P : Type 0) (r : Result T E) → is_err r ≡ true → OnErr r P → P
when_err P (Ok x) is h = absurd (let never : ⊥ = cc in never)
when_err P (Err e) is h = h
