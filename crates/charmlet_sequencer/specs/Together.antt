-- What a sequencer is made of, and what always holds of it.
use Rattle.std.specs.Prelude.{◌≡◌, false, List, Option}
use Rattle.charmlet_chare.specs.declared.chare.Chare as chares
use Rattle.charmlet_disk.specs.declared.disk.Disk as disks
use Rattle.charmlet_halves.specs.declared.halves.Halves.{Halves}
use Rattle.charmlet_halves.specs.Halves.{disk_of}
use Rattle.charmlet_history.specs.declared.history.History.{History}
use Rattle.charmlet_history.specs.Kept.{core_in}
use Rattle.charmlet_stock.specs.declared.stock.Stock.{Stock}
use Rattle.charmlet_stock.specs.ByKind.{for_all}
use Rattle.charmlet_stock.specs.Stock.{census_of, keeping_of}
use Rattle.charmlet_persist.specs.Writes.Rest.{Agrees, IsCurrent, IsKept}
use Rattle.charmlet_sequencer.specs.Authority.{IsAuthorityOf}
use Rattle.charmlet_sequencer.specs.Sequencer.{SequencerShown}
use Rattle.charmlet_sequencer.specs.Part.{Part}

module _ {D C : Type 0} {G : disks.Ghosts D} {H : chares.Ghosts C} where
  -- The authority is that of the history and the stock; the stock drops what is retired; the halves
  -- go on where the history does; and on an honest disk each crash keeps what is durable, and
  -- events may be appended unless the store is halted.
  pub record AreTied (history : History) (stock : Stock C H) (parts : List (Option Part))
      (halves : Halves D G) : Type 0 where
    pub authority : IsAuthorityOf history stock parts
    pub dropping : keeping_of stock ≡ for_all false
    pub agrees : Agrees (core_in history) halves
    pub keeps : G.honest (disk_of halves) → IsKept (core_in history) halves
    pub current : G.honest (disk_of halves) → (core_in history).halted ≡ false → IsCurrent halves

  -- what is seen of a sequencer with these
  abbrev pub shown_by : History → Stock C H → Halves D G → SequencerShown D
  shown_by history stock halves = record {
    core = core_in history;
    census = census_of stock;
    disk = disk_of halves;
  }
