-- The definitions that contracts cite.
pub mod Output
pub use Rattle.charmlet_model.specs.KindVersion
pub use Rattle.charmlet_model.specs.Kind
pub use Rattle.charmlet_model.specs.Packed
pub use Rattle.charmlet_model.specs.Reaction
pub use Rattle.charmlet_model.specs.Upgrade
