-- What is kept of the elements of all replayers.
use Rattle.std.specs.Prelude.{◌≡◌, ℕ, ◌<◌, List, length, slice_get, Some}
use Rattle.std.specs.List.Sorted.{IsStrictlySortedBy}
use Rattle.std.specs.Map.{keys_of}
use Rattle.charmlet_model.specs.declared.names.Elem.{Elem}
use Rattle.charmlet_model.specs.declared.state.Record.{Record}
use Rattle.charmlet_model.specs.Names.{elem_cmp}
use Rattle.charmlet_chare.specs.declared.chare.Chare.{Ghosts}
use Rattle.charmlet_replayers.specs.Replayer.Workers.{AreParts}
use Rattle.charmlet_replayers.specs.declared.replayer.replayer.Replayer.{Replayer}

-- each replayer has its part of the records, which rise, on so many processors
pub record ArePartsOn {C : Type 0} {G : Ghosts C} (worker : Elem → ℕ) (processors : ℕ)
    (records : List (Elem × Record)) (replayers : List (Replayer C G)) : Type 0 where
  pub rising : IsStrictlySortedBy elem_cmp (keys_of records)
  pub within : (x : Elem) → worker x < length replayers
  pub parts : AreParts worker records replayers
  pub on : (v : ℕ) (replayer : Replayer C G) → slice_get replayers v ≡ Some replayer →
      replayer.restored.processors ≡ processors
