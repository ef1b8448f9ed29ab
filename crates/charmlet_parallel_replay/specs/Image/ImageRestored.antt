-- An image that several replayers brought back.
use Rattle.std.specs.Prelude.{◌≡◌, ℕ, ◌+◌, List, [], None, Some, slice_get}
use Rattle.charmlet_model.specs.declared.client.ClientRow.{ClientRow}
use Rattle.charmlet_model.specs.declared.kind.Kind.{Kind}
use Rattle.charmlet_model.specs.declared.names.Elem.{Elem}
use Rattle.charmlet_model.specs.declared.logged.CatchUpEntry.{CatchUpEntry}
use Rattle.charmlet_model.specs.declared.message.Message.{Message}
use Rattle.charmlet_model.specs.declared.state.Record.{Record}
use Rattle.charmlet_model.specs.Core.{Blanks}
use Rattle.charmlet_model.specs.World.{World}
use Rattle.charmlet_record.specs.Reading.{Kinds}
use Rattle.charmlet_image.specs.Images.{Image}
use Rattle.charmlet_recovery.specs.Bases.{base, redelivered_all}
use Rattle.charmlet_recovery.specs.Blanks.{made_by_catch_up, wanted_by_records}
use Rattle.charmlet_recovery.specs.Faults.{catch_up_tests, first_failure, pending_tests}
use Rattle.charmlet_chare.specs.declared.chare.Chare.{Ghosts}
use Rattle.charmlet_stock.specs.Stock.{blanks_in}
use Rattle.charmlet_world.specs.Seen.{Seen, Shows}
use Rattle.charmlet_replayers.specs.Replayer.Workers.{AreParts}
use Rattle.charmlet_replayers.specs.declared.replayer.replayer.Replayer.{Replayer}

-- the replayer has no blank, and nothing to do
pub record IsAtRest {C : Type 0} {G : Ghosts C} (processors : ℕ) (replayer : Replayer C G) : Type 0
  where
    pub on : replayer.restored.processors ≡ processors
    pub spare : (kind : Kind) → blanks_in replayer.restored.stock kind ≡ 0
    pub tasks : replayer.tasks.items ≡ []

-- The deliveries of a catch-up list were made again, and none of them is at fault. Each replayer
-- has its part of the records to which they lead, and what the objects took of the blanks is gone.
pub record AreCaughtUp {C : Type 0} {G : Ghosts C} (worker : Elem → ℕ) (manifest : Kinds)
    (records : List (Elem × Record)) (ds : List CatchUpEntry) (processors : ℕ) (given left : Blanks)
    (replayers : List (Replayer C G)) : Type 0 where
  pub pass : first_failure (catch_up_tests manifest records ds) ≡ None
  pub parts : AreParts worker (redelivered_all manifest records ds) replayers
  pub rest : (v : ℕ) (replayer : Replayer C G) → slice_get replayers v ≡ Some replayer →
      IsAtRest processors replayer
  pub taken : (kind : Kind) → left kind + wanted_by_records manifest kind records
      + made_by_catch_up manifest kind records ds ≡ given kind

-- The image came back, with its catch-up list and what waits, and no record of these has a fault:
-- each replayer has its part of the records of the world that it gives, and what is kept is that
-- world.
pub record IsImageRestored {C : Type 0} {G : Ghosts C} (worker : Elem → ℕ) (image : Image)
    (processors : ℕ) (given left : Blanks) (k : Seen) (replayers : List (Replayer C G)) : Type 0
  where
    pub caught_up : AreCaughtUp worker image.manifest image.records image.caught_up processors given
        left replayers
    pub was_sent : first_failure (pending_tests (base image) image.pending) ≡ None
    pub shows : Shows k (base image)
    pub on : k.processors ≡ processors

-- the world with these arrays, records, pending messages and clients' rows
abbrev pub world_with : Kinds → List (Elem × Record) → List Message → List (ℕ × ClientRow) → World
world_with manifest records pending clients = record {
  manifest = manifest;
  records = records;
  pending = pending;
  clients = clients;
}
