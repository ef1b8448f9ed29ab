-- The definitions that contracts cite.
pub mod ByKind
pub mod Pile
pub mod Retired
pub mod Sorted
pub mod Stock
pub mod Absorption
pub use Rattle.charmlet_model.specs.KindVersion
pub use Rattle.charmlet_model.specs.Kind
pub use Rattle.charmlet_model.specs.Reaction
pub use Rattle.charmlet_model.specs.Shelves
pub use Rattle.charmlet_model.specs.Upgrade
