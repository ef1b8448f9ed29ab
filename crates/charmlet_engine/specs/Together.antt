-- What an engine is made of, and what always holds of it.
use Rattle.std.specs.Prelude.{◌≡◌, false}
use Rattle.charmlet_disk.specs.declared.disk.Disk.{Ghosts}
use Rattle.charmlet_halves.specs.declared.halves.Halves.{Halves}
use Rattle.charmlet_halves.specs.Halves.{disk_of, end_of, taken_half}
use Rattle.charmlet_history.specs.Kept.{core_in}
use Rattle.charmlet_stock.specs.ByKind.{for_all}
use Rattle.charmlet_persist.specs.Writes.Rest.{Agrees, IsCurrent, IsKept}
use Rattle.charmlet_store.specs.Store.{StoreShown}
use Rattle.charmlet_engine.specs.Engine.{EngineShown}

module _ {D : Type 0} {G : Ghosts D} where
  -- The stock drops what is retired; the halves go on where the store does; and on an honest disk
  -- each crash keeps what is durable, and events may be appended unless the store is halted.
  pub record AreTied (store : StoreShown) (halves : Halves D G) : Type 0 where
    pub dropping : store.keeping ≡ for_all false
    pub agrees : Agrees (core_in store.history) halves
    pub keeps : G.honest (disk_of halves) → IsKept (core_in store.history) halves
    pub current : G.honest (disk_of halves) → (core_in store.history).halted ≡ false →
        IsCurrent halves

  -- what is seen of an engine with this store and these halves
  abbrev pub shown_by : StoreShown → Halves D G → EngineShown D
  shown_by store halves = record {
    store = store;
    disk = disk_of halves;
    half = taken_half halves;
    log_end = end_of halves;
  }
