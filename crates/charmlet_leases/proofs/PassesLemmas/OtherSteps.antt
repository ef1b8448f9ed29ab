-- What a step adds to a history.
use Rattle.std.proofs.Common.{◌≡◌, ℕ, ◌≤◌, inl, inr, [], ◌∷◌, refl, sym, subst, ◌∙◌, arith, Option, Some, None, Bool, true, false, if◌then◌else◌}
use Rattle.std.specs.Prelude.{◌==◌}
use Rattle.std.proofs.lemmas.List.{append-nil}
use Rattle.charmlet_model.specs.declared.names.MsgId.{MsgId}
use Rattle.charmlet_model.specs.declared.refusal.Refusal.{Refusal}
use Rattle.charmlet_model.specs.declared.event.Event.TheVariants.{Deliver}
use Rattle.charmlet_model.specs.Core.{Core, CoreStep, Request, Status, Assign, Commit, Finish, Release, Move, Flush, Checkpoint, Blanks, Stepped, Steps, committed, assigned_to, failed, first_refusal, checks, next_core, place_or_home, stepped_unless}
use Rattle.charmlet_model.specs.Sound.{IsSound}
use Rattle.charmlet_model.proofs.SoundLemmas.{step_sound}
use Rattle.charmlet_leases.specs.Passes.Steps.{IsNoRequest, StepsKeepPasses}
use Rattle.charmlet_leases.proofs.PassesLemmas.Lasting.{GoesOnWithout, are_current-later}

module _ (client : ℕ) where
  same_history : (core new : Core) → new.opening ≡ core.opening → new.before ≡ core.before → new.history ≡ core.history → core.durable ≤ new.durable → GoesOnWithout client core new
  same_history core new opening before same more = record {
    opening = opening;
    before = before;
    more = [];
    grows = same ∙ sym (append-nil core.history);
    no_fewer = more;
    without = refl;
  }

  pub stays : (core : Core) → GoesOnWithout client core core
  stays core = same_history core core refl refl refl (omega arith)

  commits : (core : Core) (processor : ℕ) (id : Option MsgId) → GoesOnWithout client core (committed core processor id)
  commits core processor None = stays core
  commits core processor (Some id) = record {
    opening = refl;
    before = refl;
    more = Deliver id ∷ [];
    grows = refl;
    no_fewer = omega arith;
    without = refl;
  }

  either_way : (core : Core) (b : Bool) (new : Core) → GoesOnWithout client core new → GoesOnWithout client core (if b then core else new)
  either_way core true new h = stays core
  either_way core false new h = h

  pub goes_on : (core : Core) (step : CoreStep) → IsSound core → IsNoRequest step → GoesOnWithout client core (next_core core step)
  goes_on core (Request asking number to entry words) sound other = absurd other
  goes_on core (Status asking number) sound other = stays core
  goes_on core (Assign processor id) sound other = same_history core (next_core core (Assign processor id)) refl refl refl (omega arith)
  goes_on core (Commit processor) sound other = commits core processor (assigned_to core processor)
  goes_on core (Finish processor) sound other = commits core processor (assigned_to core processor)
  goes_on core (Release processor) sound other = same_history core (next_core core (Release processor)) refl refl refl (omega arith)
  goes_on core (Move x processor) sound other = either_way core (place_or_home core x == processor) _ (same_history core _ refl refl refl (omega arith))
  goes_on core Flush sound other = same_history core (next_core core Flush) refl refl refl sound.durable
  goes_on core Checkpoint sound other = same_history core (next_core core Checkpoint) refl refl refl sound.durable

  unless : (core : Core) (blanks : Blanks) (step : CoreStep) (o : Option Refusal) → IsSound core → IsNoRequest step → GoesOnWithout client core (stepped_unless core blanks step o).core
  unless core blanks step None sound other = goes_on core step sound other
  unless core blanks step (Some refusal) sound other = stays core

  pub other_goes_on : (core : Core) (blanks : Blanks) (step : CoreStep) (next : Stepped) → IsSound core → IsNoRequest step → Steps core blanks step next → GoesOnWithout client core next.core
  other_goes_on core blanks step next sound other s = elim s.1 [
    | inl same ↦ subst (λ (n : Stepped). GoesOnWithout client core n.core) (sym same) (unless core blanks step (first_refusal (checks core blanks step)) sound other)
    | inr lacking ↦ elim lacking [
      | inl memory ↦ subst (λ (n : Stepped). GoesOnWithout client core n.core) (sym memory.1) (stays core)
      | inr device ↦ subst (λ (n : Stepped). GoesOnWithout client core n.core) (sym device.1) (same_history core (failed core blanks).core refl refl refl (omega arith))
    ]
  ]

pub steps_keep : StepsKeepPasses
steps_keep passes core blanks step next sound other typed steps are =
    are_current-later passes core next.core (λ client. other_goes_on client core blanks step next sound other steps) sound (step_sound core blanks step next sound typed steps) are
