-- The definitions that contracts cite.
pub mod Recovery
pub use Rattle.charmlet_pup.specs.Fields
pub use Rattle.charmlet_model.specs.Names
pub use Rattle.charmlet_model.specs.Packed
pub use Rattle.charmlet_model.specs.Reaction
pub use Rattle.charmlet_model.specs.Row
pub use Rattle.charmlet_model.specs.Told
pub use Rattle.charmlet_model.specs.Unpacked
pub use Rattle.charmlet_model.specs.Upgrade
pub use Rattle.charmlet_model.specs.World
pub use Rattle.charmlet_model.specs.Logging
pub use Rattle.charmlet_record.specs.Reading
pub use Rattle.charmlet_image.specs.Halves
pub use Rattle.charmlet_image.specs.Images
pub use Rattle.charmlet_image.specs.Positioned
pub use Rattle.charmlet_image.specs.Views as ImageViews
pub use Rattle.charmlet_recovery.specs.Bases
pub use Rattle.charmlet_recovery.specs.Faults
pub use Rattle.charmlet_recovery.specs.Meanings
pub use Rattle.charmlet_recovery.specs.Recovered
