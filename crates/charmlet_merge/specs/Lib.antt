-- The definitions that contracts cite.
pub mod Taken
pub mod Combined
pub mod Merged
pub mod Rows
pub mod Store
pub use Rattle.charmlet_replayers.specs.declared.replayer.replayer
