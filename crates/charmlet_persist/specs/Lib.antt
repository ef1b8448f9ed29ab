-- The definitions that contracts cite.
pub mod Writes
pub mod Snapshot
pub mod FuzzyCheckpoint
pub use Rattle.charmlet_model.specs.Core
pub use Rattle.charmlet_model.specs.KindVersion
pub use Rattle.charmlet_model.specs.Fit
pub use Rattle.charmlet_model.specs.Sound
pub use Rattle.charmlet_model.specs.World
pub use Rattle.charmlet_record.specs.WalBuffer
pub use Rattle.charmlet_image.specs.Images
pub use Rattle.charmlet_image.specs.NewStores as ImageNewStores
pub use Rattle.charmlet_image.specs.Spelled
pub use Rattle.charmlet_recovery.specs.Outcomes
pub use Rattle.charmlet_disk.specs.Calls
pub use Rattle.charmlet_disk.specs.Disk
pub use Rattle.charmlet_disk.specs.File
pub use Rattle.charmlet_halves.specs.Answers
pub use Rattle.charmlet_halves.specs.Bytes
pub use Rattle.charmlet_halves.specs.Halves
pub use Rattle.charmlet_halves.specs.Made
pub use Rattle.charmlet_locate.specs.Locations
pub use Rattle.charmlet_history.specs.Kept
pub use Rattle.charmlet_pup.specs.Fields
pub use Rattle.charmlet_model.specs.Names
pub use Rattle.charmlet_model.specs.Packed
pub use Rattle.charmlet_model.specs.Spelling
pub use Rattle.charmlet_record.specs.Limits
pub use Rattle.charmlet_shelf.specs.Image as OneImage
pub use Rattle.charmlet_shelf.specs.Shelf as OneShelf
pub use Rattle.charmlet_world.specs.Seen
pub use Rattle.charmlet_world.specs.Waiting
pub use Rattle.charmlet_history.specs.Records
pub use Rattle.charmlet_shelf.specs.Risen
