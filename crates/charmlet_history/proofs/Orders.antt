-- Steps by their orders.
use Rattle.std.proofs.Common.{◌≡◌, inl, inr, true, false, List, [], ◌∷◌, ◌++◌, refl, sym, ap, ◌∙◌}
use Rattle.std.specs.Prelude.{Some, None}
use Rattle.charmlet_model.specs.declared.refusal.Refusal.{Refusal}
use Rattle.charmlet_model.specs.declared.refusal.Refusal.TheVariants.{Memory}
use Rattle.charmlet_model.specs.Core.{Core, CoreStep, Blanks, Check, When, MayLackMemory, MayFail, Steps, checks, first_refusal, may_lack_memory, stepped_unless, refused, is_possible, answer_of, next_core, next_blanks}

-- ---- one order after another

pub none_of_both : (order more : List Check) → first_refusal order ≡ None → first_refusal (order ++ more) ≡ first_refusal more
none_of_both [] more h = refl
none_of_both (When true refusal ∷ order) more h = absurd (let no : ⊥ = cc in no)
none_of_both (When false refusal ∷ order) more h = none_of_both order more h
none_of_both (MayLackMemory ∷ order) more h = none_of_both order more h
none_of_both (MayFail ∷ order) more h = none_of_both order more h

pub some_of_first : (order more : List Check) (refusal : Refusal) → first_refusal order ≡ Some refusal → first_refusal (order ++ more) ≡ Some refusal
some_of_first [] more refusal h = absurd (let no : ⊥ = cc in no)
some_of_first (When true other ∷ order) more refusal h = h
some_of_first (When false other ∷ order) more refusal h = some_of_first order more refusal h
some_of_first (MayLackMemory ∷ order) more refusal h = some_of_first order more refusal h
some_of_first (MayFail ∷ order) more refusal h = some_of_first order more refusal h

-- a refusal stands in the front of an order whose rest refuses nothing
pub in_front : (order more : List Check) (refusal : Refusal) → first_refusal more ≡ None → first_refusal (order ++ more) ≡ Some refusal → first_refusal order ≡ Some refusal
in_front [] more refusal none h = absurd (let no : None ≡ Some refusal = sym none ∙ h in let never : ⊥ = cc in never)
in_front (When true other ∷ order) more refusal none h = h
in_front (When false other ∷ order) more refusal none h = in_front order more refusal none h
in_front (MayLackMemory ∷ order) more refusal none h = in_front order more refusal none h
in_front (MayFail ∷ order) more refusal none h = in_front order more refusal none h

pub none_in_front : (order more : List Check) → first_refusal (order ++ more) ≡ None → first_refusal order ≡ None
none_in_front [] more h = refl
none_in_front (When true other ∷ order) more h = absurd (let no : ⊥ = cc in no)
none_in_front (When false other ∷ order) more h = none_in_front order more h
none_in_front (MayLackMemory ∷ order) more h = none_in_front order more h
none_in_front (MayFail ∷ order) more h = none_in_front order more h

pub memory_after : (order more : List Check) → first_refusal order ≡ None → may_lack_memory more ≡ true → may_lack_memory (order ++ more) ≡ true
memory_after [] more none h = h
memory_after (When true other ∷ order) more none h = absurd (let no : ⊥ = cc in no)
memory_after (When false other ∷ order) more none h = memory_after order more none h
memory_after (MayLackMemory ∷ order) more none h = refl
memory_after (MayFail ∷ order) more none h = memory_after order more none h

-- ---- what a step answers by its order

module _ (core : Core) (blanks : Blanks) (step : CoreStep) (possible : is_possible core step ≡ true) where
  pub is_refused : (refusal : Refusal) → first_refusal (checks core blanks step) ≡ Some refusal → Steps core blanks step (refused core blanks refusal)
  is_refused refusal h = (possible, inl (sym (ap (stepped_unless core blanks step) h)))

  pub lacks_memory : may_lack_memory (checks core blanks step) ≡ true → Steps core blanks step (refused core blanks Memory)
  lacks_memory h = (possible, inr (inl (h, refl)))

  pub is_done : first_refusal (checks core blanks step) ≡ None → Steps core blanks step (record { answer = answer_of core step; core = next_core core step; blanks = next_blanks core blanks step })
  is_done h = (possible, inl (sym (ap (stepped_unless core blanks step) h)))
