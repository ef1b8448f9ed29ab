-- The definitions that contracts cite.
pub mod Name
pub mod Script
pub mod Printed
pub mod Line
pub mod Reading
pub use Rattle.charmlet_model.specs.KindVersion
pub use Rattle.charmlet_model.specs.Fit
pub use Rattle.charmlet_model.specs.Manifest
pub use Rattle.charmlet_model.specs.Sound
