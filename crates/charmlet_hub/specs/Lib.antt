-- The definitions that contracts cite.
pub mod Hub
pub mod Settling
pub mod Checkpoint
pub use Rattle.charmlet_locks.specs.GhostAuth.Naming
pub use Rattle.charmlet_model.specs.Core
pub use Rattle.charmlet_model.specs.Run
pub use Rattle.charmlet_model.specs.Shelves
pub use Rattle.charmlet_model.specs.Sound
pub use Rattle.charmlet_model.specs.Told
pub use Rattle.charmlet_model.specs.World
pub use Rattle.charmlet_disk.specs.Calls
pub use Rattle.charmlet_disk.specs.Disk
pub use Rattle.charmlet_disk.specs.File
pub use Rattle.charmlet_halves.specs.Answers
pub use Rattle.charmlet_halves.specs.Halves
pub use Rattle.charmlet_history.specs.Kept
pub use Rattle.charmlet_history.specs.Wanting
pub use Rattle.charmlet_persist.specs.Writes.Rest
pub use Rattle.charmlet_requests.specs.Pass
pub use Rattle.charmlet_leases.specs.Passes.Passes
pub use Rattle.charmlet_leases.specs.Seats.Seats
pub use Rattle.charmlet_leases.specs.Seats.Woven
pub use Rattle.charmlet_shelf.specs.Shelf as OneShelf
pub use Rattle.charmlet_delivery.specs.Workplace
pub use Rattle.charmlet_sequencer.specs.Sequencer
pub use Rattle.charmlet_store.specs.Store
pub use Rattle.charmlet_sequencer.specs.Shelf
pub use Rattle.charmlet_stock.specs.ByKind
pub use Rattle.charmlet_delivery.specs.UnderWay
pub use Rattle.charmlet_sequencer.specs.Authority
pub use Rattle.charmlet_sequencer.specs.Part
pub use Rattle.charmlet_sequencer.specs.Relocating
pub use Rattle.charmlet_shelf.specs.Image
pub use Rattle.charmlet_persist.specs.FuzzyCheckpoint.Laws
pub use Rattle.charmlet_persist.specs.FuzzyCheckpoint.Checkpoint as FuzzyCheckpoint
pub use Rattle.charmlet_persist.specs.FuzzyCheckpoint.Sealing as EndOfRunning
pub use Rattle.charmlet_sequencer.specs.Checkpointing
