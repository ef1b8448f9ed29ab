-- The definitions that contracts cite.
pub mod Due
pub mod PerformedDelivery
pub mod Shelf
pub mod Receiving
pub mod Image
pub mod Count
pub mod Risen
pub mod Lending
pub use Rattle.charmlet_model.specs.Names
pub use Rattle.charmlet_model.specs.Reaction
pub use Rattle.charmlet_model.specs.Shelves
pub use Rattle.charmlet_model.specs.Upgrade
pub use Rattle.charmlet_chare.specs.Output
