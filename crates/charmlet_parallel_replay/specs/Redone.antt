-- A half whose three rounds several replayers made.
use Rattle.std.specs.Prelude.{◌≡◌, ℕ, ◌+◌, List, None, Some, length, slice_get}
use Rattle.charmlet_model.specs.declared.kind.Kind.{Kind}
use Rattle.charmlet_model.specs.declared.logged.Logged.{Logged}
use Rattle.charmlet_model.specs.Core.{Blanks}
use Rattle.charmlet_record.specs.declared.positioned.Positioned.{Positioned}
use Rattle.charmlet_image.specs.Images.{Image}
use Rattle.charmlet_image.specs.Positioned.{items_of}
use Rattle.charmlet_recovery.specs.Bases.{base, recovered_world}
use Rattle.charmlet_recovery.specs.Blanks.{made}
use Rattle.charmlet_recovery.specs.Faults.{first_fault}
use Rattle.charmlet_recovery.specs.Replays.{LogScan}
use Rattle.charmlet_chare.specs.declared.chare.Chare.{Ghosts}
use Rattle.charmlet_stock.specs.Stock.{blanks_in}
use Rattle.charmlet_world.specs.Seen.{Seen}
use Rattle.charmlet_parallel_replay.specs.Workers.{AreParts}
use Rattle.charmlet_parallel_replay.specs.replayer.Replayer.{Replayer}
use Rattle.charmlet_replayers.specs.Dispatch.Sharing.{worker_of}
use Rattle.charmlet_merge.specs.Store.Done.{AreAllDone}

-- No record of the image or the log is at fault. Each replayer has its part of the records of the
-- world after the log, and what its tasks reply; what is kept is that world but for the words of
-- the log's replies; and the blanks that the objects took are gone, of which no replayer has one
-- left.
pub record IsRedone {C : Type 0} {G : Ghosts C} (image : Image) (before : ℕ)
    (log : List (Positioned Logged)) (processors : ℕ) (given left : Blanks) (kept : Seen)
    (replayers : List (Replayer C G)) : Type 0 where
  pub faultless : first_fault image before (items_of log) ≡ None
  pub scan : LogScan
  pub done : AreAllDone (base image) before scan log (recovered_world image (items_of log)) kept
      replayers
  pub on : kept.processors ≡ processors
  pub parts : AreParts (worker_of processors (length replayers))
      (recovered_world image (items_of log)).records replayers
  pub there : (v : ℕ) (replayer : Replayer C G) → slice_get replayers v ≡ Some replayer →
      replayer.restored.processors ≡ processors
  pub spare : (v : ℕ) (replayer : Replayer C G) → slice_get replayers v ≡ Some replayer →
      (kind : Kind) →
      blanks_in replayer.restored.stock kind ≡ 0
  pub taken : (kind : Kind) → left kind + made image (items_of log) kind ≡ given kind
