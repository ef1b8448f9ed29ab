-- The definitions that contracts cite.
pub mod Places
pub mod Home
pub mod Receiving
pub mod RestoredShard
pub use Rattle.charmlet_model.specs.Core
pub use Rattle.charmlet_model.specs.KindVersion
pub use Rattle.charmlet_model.specs.Names
pub use Rattle.charmlet_model.specs.Packed
pub use Rattle.charmlet_model.specs.Reaction
pub use Rattle.charmlet_model.specs.Unpacked
pub use Rattle.charmlet_model.specs.World
pub use Rattle.charmlet_image.specs.Positioned
pub use Rattle.charmlet_image.specs.Reading as ImageReading
pub use Rattle.charmlet_image.specs.Views
pub use Rattle.charmlet_image.specs.Written as ImageWritten
pub use Rattle.charmlet_recovery.specs.Bases
pub use Rattle.charmlet_recovery.specs.Blanks
pub use Rattle.charmlet_recovery.specs.Faults
pub use Rattle.charmlet_shelf.specs.Due
pub use Rattle.charmlet_shelf.specs.PerformedDelivery
pub use Rattle.charmlet_stock.specs.Stock
pub use Rattle.charmlet_locate.specs.Locations
pub use Rattle.charmlet_world.specs.Seen
pub use Rattle.charmlet_history.specs.Opened
pub use Rattle.charmlet_migrate.specs.Moving
pub use Rattle.charmlet_migrate.specs.Workplace
pub use Rattle.charmlet_world.specs.declared.element
