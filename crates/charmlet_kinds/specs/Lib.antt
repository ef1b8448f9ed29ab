-- The definitions that contracts cite.
pub mod Counter
pub mod Ring
pub mod Account
pub mod Sum
pub mod Tape
pub mod Tree
pub use Rattle.charmlet_pup.specs.Fields
pub use Rattle.charmlet_pup.specs.ReadsBack
pub use Rattle.charmlet_pup.specs.Visit
pub use Rattle.charmlet_model.specs.Packed
pub use Rattle.charmlet_model.specs.Reaction
pub use Rattle.charmlet_chare.specs.Output
