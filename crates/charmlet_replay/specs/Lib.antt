-- The definitions that contracts cite.
pub mod Ready
pub mod Made
pub mod Lists
pub mod Counted
pub mod Images
pub mod Unused
pub mod Replayed
pub use Rattle.charmlet_model.specs.Core
pub use Rattle.charmlet_model.specs.KindVersion
pub use Rattle.charmlet_model.specs.Fit
pub use Rattle.charmlet_model.specs.Logging
pub use Rattle.charmlet_model.specs.Names
pub use Rattle.charmlet_model.specs.Packed
pub use Rattle.charmlet_model.specs.Reaction
pub use Rattle.charmlet_model.specs.Row
pub use Rattle.charmlet_model.specs.Sound
pub use Rattle.charmlet_model.specs.Spelling
pub use Rattle.charmlet_model.specs.Unpacked
pub use Rattle.charmlet_model.specs.World
pub use Rattle.charmlet_record.specs.WalBuffer
pub use Rattle.charmlet_record.specs.Lawful
pub use Rattle.charmlet_record.specs.Limits
pub use Rattle.charmlet_record.specs.Reading as RecordReading
pub use Rattle.charmlet_record.specs.Written as RecordWritten
pub use Rattle.charmlet_image.specs.Images as ImageImages
pub use Rattle.charmlet_image.specs.Positioned
pub use Rattle.charmlet_image.specs.Reading as ImageReading
pub use Rattle.charmlet_image.specs.Views
pub use Rattle.charmlet_image.specs.Written as ImageWritten
pub use Rattle.charmlet_recovery.specs.Bases
pub use Rattle.charmlet_recovery.specs.Blanks
pub use Rattle.charmlet_recovery.specs.Faults
pub use Rattle.charmlet_recovery.specs.Restarts
pub use Rattle.charmlet_shelf.specs.Due
pub use Rattle.charmlet_shelf.specs.PerformedDelivery
pub use Rattle.charmlet_shelf.specs.Shelf
pub use Rattle.charmlet_stock.specs.ByKind
pub use Rattle.charmlet_stock.specs.Pile
pub use Rattle.charmlet_stock.specs.Stock
pub use Rattle.charmlet_locate.specs.Locations
pub use Rattle.charmlet_world.specs.Seen
pub use Rattle.charmlet_history.specs.Kept
pub use Rattle.charmlet_history.specs.Opened
pub use Rattle.charmlet_store.specs.Moving
pub use Rattle.charmlet_store.specs.StoreParts
pub use Rattle.charmlet_delivery.specs.Workplace
pub use Rattle.charmlet_store.specs.Store
pub use Rattle.charmlet_world.specs.declared.element
pub use Rattle.charmlet_shard.specs.Home
pub use Rattle.charmlet_shard.specs.Places
pub use Rattle.charmlet_shard.specs.RestoredShard
pub use Rattle.charmlet_shard.specs.declared.restored_shard
