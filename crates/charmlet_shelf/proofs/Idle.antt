-- Shelves on which no delivery is under way.
use Rattle.std.proofs.Common.{◌≡◌, true, List, refl}
use Rattle.charmlet_model.specs.declared.names.Elem.{Elem}
use Rattle.charmlet_model.specs.declared.state.Record.{Record}
use Rattle.charmlet_shelf.specs.Shelf.{is_idle, records_before}
use Rattle.charmlet_shelf.specs.declared.phase.Phase.{Phase}
use Rattle.charmlet_shelf.specs.declared.phase.Phase.TheVariants.{Idle, Assigned, Done}

-- the objects show the records
pub idle_records : (rs : List (Elem × Record)) (phase : Phase) → is_idle phase ≡ true → records_before rs phase ≡ rs
idle_records rs Idle idle = refl
idle_records rs (Assigned due) idle = absurd (let never : ⊥ = cc in never)
idle_records rs (Done performed) idle = absurd (let never : ⊥ = cc in never)
