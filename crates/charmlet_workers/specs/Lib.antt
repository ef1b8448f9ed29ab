-- The definitions that contracts cite.
pub mod Runtime
pub mod Refusals
pub mod Working
pub mod Sealing
pub use Rattle.charmlet_locks.specs.GhostAuth.Naming
pub use Rattle.charmlet_model.specs.Core
pub use Rattle.charmlet_model.specs.Sound
pub use Rattle.charmlet_model.specs.World
pub use Rattle.charmlet_disk.specs.File
pub use Rattle.charmlet_halves.specs.Halves
pub use Rattle.charmlet_history.specs.Kept
pub use Rattle.charmlet_history.specs.Wanting
pub use Rattle.charmlet_persist.specs.Writes.Rest
pub use Rattle.charmlet_stock.specs.ByKind
pub use Rattle.charmlet_requests.specs.Handlers
pub use Rattle.charmlet_requests.specs.Pass
pub use Rattle.charmlet_leases.specs.Passes.Passes
pub use Rattle.charmlet_leases.specs.Seats.Seats
pub use Rattle.charmlet_leases.specs.Seats.Woven
pub use Rattle.charmlet_shelf.specs.Shelf as OneShelf
pub use Rattle.charmlet_sequencer.specs.Sequencer
pub use Rattle.charmlet_hub.specs.Hub
