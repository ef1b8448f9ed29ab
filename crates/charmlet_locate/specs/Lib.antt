-- The definitions that contracts cite.
pub mod Locations
pub use Rattle.charmlet_model.specs.Core
pub use Rattle.charmlet_model.specs.Names
