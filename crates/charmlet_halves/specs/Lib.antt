-- The definitions that contracts cite.
pub mod Bytes
pub mod Ready
pub mod Halves
pub mod Answers
pub mod Steps
pub mod Gates
pub mod Found
pub mod Opened
pub mod Made
pub use Rattle.charmlet_model.specs.Fit
pub use Rattle.charmlet_model.specs.Half
pub use Rattle.charmlet_model.specs.Sound
pub use Rattle.charmlet_model.specs.Texts
pub use Rattle.charmlet_image.specs.Halves as ImageHalves
pub use Rattle.charmlet_image.specs.Images
pub use Rattle.charmlet_image.specs.NewStores
pub use Rattle.charmlet_image.specs.Spelled
pub use Rattle.charmlet_image.specs.Views
pub use Rattle.charmlet_disk.specs.Calls
pub use Rattle.charmlet_disk.specs.Disk
pub use Rattle.charmlet_disk.specs.File
