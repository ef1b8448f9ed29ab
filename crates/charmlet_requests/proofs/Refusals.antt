-- Results that are refusals.
use Rattle.std.proofs.Common.{◌≡◌, ℕ, Result, Ok, Err, sym, ap, subst}
use Rattle.std.specs.Prelude.{IsErr, IsErrAnd, OnErr}
use Rattle.charmlet_model.specs.declared.told.Told.{Told}
use Rattle.charmlet_model.specs.declared.refusal.Refusal.{Refusal}
use Rattle.charmlet_model.specs.declared.refusal.Refusal.TheVariants as refusals
use Rattle.charmlet_model.specs.Core.{Core, Refuses}
use Rattle.charmlet_history.specs.Kept.{told_or_refused}
use Rattle.charmlet_requests.specs.Knowing.{IsNoLess}
use Rattle.charmlet_requests.specs.Pass.{Pass, IsHeard, IsTold, known}
use Rattle.charmlet_requests.proofs.Covering.{no_less-itself}

-- what is there in any case is there at an error
pub on_err : {T E : Type 0} {P : Type 0} (r : Result T E) → P → OnErr r P
on_err (Ok x) p = tt
on_err (Err e) p = p

-- the answer that memory was refused
pub refused_memory : (r : Result Told Refusal) → IsErrAnd r (λ refusal. refusal ≡ refusals.Memory) → told_or_refused r ≡ Refuses refusals.Memory
refused_memory (Ok told) h = absurd h
refused_memory (Err refusal) h = ap Refuses h

-- a refusal that changes nothing leaves a pass as it was
pub refused_heard : (pass next : Pass) (core after : Core) (number : ℕ) (r : Result Told Refusal) → IsErr r → after ≡ core → next ≡ pass → IsHeard pass next core after number r
refused_heard pass next core after number (Ok told) h same is = absurd (let no : ⊥ = cc in no)
refused_heard pass next core after number (Err refusal) h same is = record {
  no_less = λ _. tt;
  kept = λ other. subst (λ (p : Pass). IsNoLess (known pass other) (known p other)) (sym is) (no_less-itself (known pass other));
  holds = λ all. subst (IsTold next) (sym same) (subst (λ (p : Pass). IsTold p core) (sym is) all);
  err = is;
}
