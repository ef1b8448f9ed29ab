-- What follows where a call succeeded.
use Rattle.std.proofs.Common.{Result, Ok, Err, OnOk}
use Rattle.charmlet_model.specs.declared.kind.Kind.{Kind}

-- of each kind
pub each_then : {T E : Type 0} (r : Result T E) (P Q : Kind → Type 0) → ((kind : Kind) → P kind → Q kind) → ((kind : Kind) → OnOk r (P kind)) → OnOk r ((kind : Kind) → Q kind)
each_then (Ok x) P Q f h = λ kind. f kind (h kind)
each_then (Err e) P Q f h = tt

pub ok_then : {T E : Type 0} (r : Result T E) (P Q : Type 0) → (P → Q) → OnOk r P → OnOk r Q
ok_then (Ok x) P Q f h = f h
ok_then (Err e) P Q f h = tt

pub both_then : {T E : Type 0} (r : Result T E) (P Q S : Type 0) → (P → Q → S) → OnOk r P → OnOk r Q → OnOk r S
both_then (Ok x) P Q S f p q = f p q
both_then (Err e) P Q S f p q = tt

pub three_then : {T E : Type 0} (r : Result T E) (P Q R S : Type 0) → (P → Q → R → S) → OnOk r P → OnOk r Q → OnOk r R → OnOk r S
three_then (Ok x) P Q R S f p q s = f p q s
three_then (Err e) P Q R S f p q s = tt

pub ok_always : {T E : Type 0} (r : Result T E) (P : Type 0) → P → OnOk r P
ok_always (Ok x) P h = h
ok_always (Err e) P h = tt
