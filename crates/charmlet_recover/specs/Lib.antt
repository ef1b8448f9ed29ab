-- The definitions that contracts cite.
pub mod Wanted
pub mod Maps
pub mod Logs
pub mod Found
pub mod Restart
pub use Rattle.charmlet_model.specs.Kind
pub use Rattle.charmlet_model.specs.Names
pub use Rattle.charmlet_model.specs.Shelves
pub use Rattle.charmlet_model.specs.Texts
pub use Rattle.charmlet_model.specs.World
pub use Rattle.charmlet_record.specs.Reading
pub use Rattle.charmlet_image.specs.Halves as ImageHalves
pub use Rattle.charmlet_image.specs.Images
pub use Rattle.charmlet_image.specs.Positioned
pub use Rattle.charmlet_image.specs.Views
pub use Rattle.charmlet_recovery.specs.Bases
pub use Rattle.charmlet_recovery.specs.Blanks
pub use Rattle.charmlet_recovery.specs.Faults
pub use Rattle.charmlet_recovery.specs.Outcomes
pub use Rattle.charmlet_recovery.specs.Recovered
pub use Rattle.charmlet_recovery.specs.Restarts
pub use Rattle.charmlet_disk.specs.Calls
pub use Rattle.charmlet_disk.specs.Disk
pub use Rattle.charmlet_disk.specs.File
pub use Rattle.charmlet_halves.specs.Answers
pub use Rattle.charmlet_halves.specs.Found as HalvesFound
pub use Rattle.charmlet_halves.specs.Halves as HalvesHalves
pub use Rattle.charmlet_halves.specs.Opened
pub use Rattle.charmlet_stock.specs.ByKind
pub use Rattle.charmlet_stock.specs.Stock
pub use Rattle.charmlet_locate.specs.Locations
pub use Rattle.charmlet_persist.specs.Writes.Rest
pub use Rattle.charmlet_store.specs.Store
pub use Rattle.charmlet_replay.specs.Replayed
pub use Rattle.charmlet_replay.specs.Unused
