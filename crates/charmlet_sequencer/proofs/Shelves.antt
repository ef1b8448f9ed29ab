-- The phases of a shelf.
use Rattle.std.proofs.Common.{◌≡◌, true, false, refl}
use Rattle.std.specs.Prelude.{not}
use Rattle.charmlet_shelf.specs.Shelf.{is_assigned, is_idle}
use Rattle.charmlet_shelf.specs.declared.phase.Phase.{Phase}
use Rattle.charmlet_shelf.specs.declared.phase.Phase.TheVariants as phases
use Rattle.charmlet_sequencer.specs.Shelf.{is_done}

pub done_unassigned : (phase : Phase) → is_done phase ≡ true → is_assigned phase ≡ false
done_unassigned phases.Idle done = refl
done_unassigned (phases.Assigned due) done = absurd (let never : ⊥ = cc in never)
done_unassigned (phases.Done d) done = refl

pub assigned_else : (phase : Phase) → is_done phase ≡ false → is_assigned phase ≡ not (is_idle phase)
assigned_else phases.Idle other = refl
assigned_else (phases.Assigned due) other = refl
assigned_else (phases.Done d) other = absurd (let never : ⊥ = cc in never)
