-- What the clients of a runtime were told is true, as a run's answers are.
use Rattle.std.proofs.Common.{◌≡◌, ℕ, suc, List, [], ◌∷◌, take, map, refl}
use Rattle.std.specs.Prelude.{Option, Some, None, slice_get}
use Rattle.std.specs.List.{flat_map}
use Rattle.charmlet_model.specs.declared.told.Told.{Told}
use Rattle.charmlet_model.specs.declared.step.Step.TheVariants.{Status}
use Rattle.charmlet_model.specs.declared.step.Answer.TheVariants.{Told as TheTold}
use Rattle.charmlet_model.specs.Core.{Core}
use Rattle.charmlet_model.specs.RunLaws.{AllTold}
use Rattle.charmlet_model.proofs.RunTruths.{all_told_join}
use Rattle.charmlet_leases.specs.Passes.Passes.{AreTrue, HeldPass, passes_out}
use Rattle.charmlet_runtime.specs.Told.{PassesAreRuns, asked_by, told_to}

-- answers to one client
told_one : (core : Core) (client : ℕ) (heard : List (ℕ × Told)) → AreTrue core client heard →
    AllTold core.opening (take core.durable core.history) (map (λ (h : ℕ × Told). Status client h.0) heard) (map (λ (h : ℕ × Told). TheTold h.1) heard)
told_one core client [] true_of = tt
told_one core client (h ∷ heard) true_of = (true_of.0, told_one core client heard true_of.1)

-- and to those of all passes
told_all : (core : Core) (held : List (Option HeldPass)) → ((place : ℕ) (h : HeldPass) → slice_get held place ≡ Some (Some h) → AreTrue core h.pass.client h.heard) →
    AllTold core.opening (take core.durable core.history) (flat_map asked_by (passes_out held)) (flat_map told_to (passes_out held))
told_all core [] each = tt
told_all core (None ∷ held) each = told_all core held (λ place h there. each (suc place) h there)
told_all core (Some h ∷ held) each =
    all_told_join core.opening (take core.durable core.history) (asked_by h) (flat_map asked_by (passes_out held)) (told_to h) (flat_map told_to (passes_out held))
    (told_one core h.pass.client h.heard (each 0 h refl))
    (told_all core held (λ place g there. each (suc place) g there))

pub passes_are_runs : PassesAreRuns
passes_are_runs opened core passes onward sound current = record {
  onward = onward;
  sound = sound;
  told = told_all core passes.held (λ place h there. (current.each place h there).heard);
}
