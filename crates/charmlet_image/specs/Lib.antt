-- The definitions that contracts cite.
pub mod Images
pub mod Ids
pub mod After
pub mod Reading
pub mod Written
pub mod Halves
pub mod Places
pub mod FitImages
pub mod Examples
pub mod Counted
pub mod Positioned
pub mod Views
pub mod NewStores
pub mod Spelled
pub use Rattle.charmlet_model.specs.KindVersion
pub use Rattle.charmlet_model.specs.Names
pub use Rattle.charmlet_model.specs.Packed
pub use Rattle.charmlet_model.specs.Spelling
pub use Rattle.charmlet_model.specs.Unpacked
pub use Rattle.charmlet_record.specs.Gives
pub use Rattle.charmlet_record.specs.Lawful
pub use Rattle.charmlet_record.specs.Limits
pub use Rattle.charmlet_record.specs.Reading as RecordReading
