-- Steps while a checkpoint runs.
use Rattle.std.proofs.Common.{◌≡◌, ℕ, Bool, true, false, List, ◌∷◌, [], ◌++◌, drop, inl, inr, refl, sym, ap, subst, ◌∙◌, if◌then◌else◌, Option, Some, None}
use Rattle.charmlet_model.specs.declared.event.Event.TheVariants.{Accept}
use Rattle.charmlet_model.specs.declared.names.Elem.{Elem}
use Rattle.charmlet_model.specs.declared.names.MsgId.{MsgId}
use Rattle.charmlet_model.specs.declared.refusal.Refusal.{Refusal}
use Rattle.charmlet_model.specs.declared.refusal.Refusal.TheVariants as refusals
use Rattle.charmlet_model.specs.Core.{Assign, Blanks, Check, Checkpoint, Commit, Core, CoreAnswer, CoreStep, Finish, Flush, Move, Refuses, Release, Request, Status, Stepped, Steps, When, answer_of, assigned_to, checks, committed, first_refusal, is_possible, is_repeat, may_fail, may_lack_memory, next_blanks, next_core, stepped_unless}
use Rattle.charmlet_model.specs.Run.{Goes, StoreView}
use Rattle.charmlet_history.proofs.Orders.{is_refused}
use Rattle.charmlet_hub.specs.Hub.{while_busy}

abbrev pub busied : Bool → Core → Core
busied b core = record core { busy = b }

abbrev busied_step : Bool → Stepped → Stepped
busied_step b s = record s { core = busied b s.core }

-- neither a move nor a checkpoint
abbrev pub IsPlain : CoreStep → Type 0
IsPlain (Move x processor) = ⊥
IsPlain Checkpoint = ⊥
IsPlain _ = Unit {0}

module _ (b : Bool) (core : Core) where
  committed_same : (p : ℕ) (o : Option MsgId) → committed (busied b core) p o ≡ busied b (committed core p o)
  committed_same p None = refl
  committed_same p (Some id) = refl

  next_same : (step : CoreStep) → IsPlain step → next_core (busied b core) step ≡ busied b (next_core core step)
  next_same (Request client number to entry words) plain =
      elim (is_repeat core client number) as (λ r. (if r then busied b core else record core { history = core.history ++ Accept client number to entry words ∷ []; busy = b })
      ≡ busied b (if r then core else record core { history = core.history ++ Accept client number to entry words ∷ [] })) [
        | true ↦ refl
        | false ↦ refl
      ]
  next_same (Status client number) plain = refl
  next_same (Assign p id) plain = refl
  next_same (Commit p) plain = committed_same p (assigned_to core p)
  next_same (Finish p) plain = committed_same p (assigned_to core p)
  next_same (Release p) plain = refl
  next_same (Move x p) plain = absurd plain
  next_same Flush plain = refl
  next_same Checkpoint plain = absurd plain

  module _ (blanks : Blanks) where
    checks_same : (step : CoreStep) → IsPlain step → checks (busied b core) blanks step ≡ checks core blanks step
    checks_same (Request client number to entry words) plain = refl
    checks_same (Status client number) plain = refl
    checks_same (Assign p id) plain = refl
    checks_same (Commit p) plain = refl
    checks_same (Finish p) plain = refl
    checks_same (Release p) plain = refl
    checks_same (Move x p) plain = absurd plain
    checks_same Flush plain = refl
    checks_same Checkpoint plain = absurd plain

    blanks_same : (step : CoreStep) → IsPlain step → next_blanks (busied b core) blanks step ≡ next_blanks core blanks step
    blanks_same (Request client number to entry words) plain = refl
    blanks_same (Status client number) plain = refl
    blanks_same (Assign p id) plain = refl
    blanks_same (Commit p) plain = refl
    blanks_same (Finish p) plain = refl
    blanks_same (Release p) plain = refl
    blanks_same (Move x p) plain = absurd plain
    blanks_same Flush plain = refl
    blanks_same Checkpoint plain = absurd plain

  answer_same : (step : CoreStep) → IsPlain step → answer_of (busied b core) step ≡ answer_of core step
  answer_same (Request client number to entry words) plain = refl
  answer_same (Status client number) plain = refl
  answer_same (Assign p id) plain = refl
  answer_same (Commit p) plain = refl
  answer_same (Finish p) plain = refl
  answer_same (Release p) plain = refl
  answer_same (Move x p) plain = absurd plain
  answer_same Flush plain = refl
  answer_same Checkpoint plain = absurd plain

  possible_same : (step : CoreStep) → IsPlain step → is_possible (busied b core) step ≡ is_possible core step
  possible_same (Request client number to entry words) plain = refl
  possible_same (Status client number) plain = refl
  possible_same (Assign p id) plain = refl
  possible_same (Commit p) plain = refl
  possible_same (Finish p) plain = refl
  possible_same (Release p) plain = refl
  possible_same (Move x p) plain = absurd plain
  possible_same Flush plain = refl
  possible_same Checkpoint plain = absurd plain

  module _ (blanks : Blanks) (step : CoreStep) (plain : IsPlain step) where
    unless_same : (o : Option Refusal) → busied_step b (stepped_unless core blanks step o) ≡ stepped_unless (busied b core) blanks step o
    unless_same None = λ i. record { answer = sym (answer_same step plain) i; core = sym (next_same step plain) i; blanks = sym (blanks_same blanks step plain) i }
    unless_same (Some refusal) = refl

    -- a checkpoint that runs changes nothing of such a step
    busy_steps : (next : Stepped) → Steps core blanks step next → Steps (busied b core) blanks step (busied_step b next)
    busy_steps next s =
        let order = sym (checks_same blanks step plain) in (
          possible_same step plain ∙ s.0,
          elim s.1 [
            | inl same ↦ inl (ap (busied_step b) same ∙ unless_same (first_refusal (checks core blanks step)) ∙ ap (λ (o : List Check). stepped_unless (busied b core) blanks step (first_refusal o)) order)
            | inr lacking ↦ elim lacking [
              | inl memory ↦ inr (inl (subst (λ (o : List Check). may_lack_memory o ≡ true) order memory.0, ap (busied_step b) memory.1))
              | inr device ↦ inr (inr (subst (λ (o : List Check). may_fail o ≡ true) order device.0, ap (busied_step b) device.1))
            ]
          ],
        )

pub busy_goes : (b : Bool) (store next : StoreView) (step : CoreStep) (answer : CoreAnswer) → IsPlain step → Goes store step answer next → Goes (while_busy b store) step answer (while_busy b next)
busy_goes b store next step answer plain goes = busy_steps b store.core store.blanks step plain (record { answer = answer; core = next.core; blanks = next.blanks }) goes

pub busy_goes_to : (b b' : Bool) → b' ≡ b → (store next : StoreView) (step : CoreStep) (answer : CoreAnswer) → IsPlain step → Goes store step answer next → Goes (while_busy b store) step answer (while_busy b' next)
busy_goes_to b b' same store next step answer plain goes = subst (λ (x : Bool). Goes (while_busy b store) step answer (while_busy x next)) (sym same) (busy_goes b store next step answer plain goes)

-- where none runs, each step is as it is without one
pub idle_same : (b : Bool) (store : StoreView) → b ≡ false → store.core.busy ≡ false → store ≡ while_busy b store
idle_same b store none idle = λ i. while_busy ((idle ∙ sym none) i) store

pub idle_goes : (b : Bool) (store next : StoreView) (step : CoreStep) (answer : CoreAnswer) → b ≡ false → store.core.busy ≡ false → next.core.busy ≡ false → Goes store step answer next → Goes (while_busy b store) step answer (while_busy b next)
idle_goes b store next step answer none was is goes =
    subst (λ (x : StoreView × StoreView). Goes x.0 step answer x.1) (λ i. (idle_same b store none was i, idle_same b next none is i)) goes

-- ---- what is refused while one runs

abbrev pub busy_refusal : Core → Refusal
busy_refusal core = if core.halted then refusals.Halted else refusals.Checkpointing

by_halted : (b : Bool) → (if b then Some refusals.Halted else Some refusals.Checkpointing) ≡ Some (if b then refusals.Halted else refusals.Checkpointing)
by_halted true = refl
by_halted false = refl

first_busy : (core : Core) (rest : List Check) → core.busy ≡ true → first_refusal (When core.halted refusals.Halted ∷ When core.busy refusals.Checkpointing ∷ rest) ≡ Some (busy_refusal core)
first_busy core rest busy = (λ i. if core.halted then Some refusals.Halted else (if busy i then Some refusals.Checkpointing else first_refusal rest)) ∙ by_halted core.halted

pub busy_move : (store : StoreView) (x : Elem) (p : ℕ) (refusal : Refusal) → store.core.busy ≡ true → refusal ≡ busy_refusal store.core → Goes store (Move x p) (Refuses refusal) store
busy_move store x p refusal busy is = is_refused store.core store.blanks (Move x p) refl refusal (first_busy store.core (drop 2 (checks store.core store.blanks (Move x p))) busy ∙ ap Some (sym is))
