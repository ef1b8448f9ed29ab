-- The definitions that contracts cite.
pub mod Redone
pub mod Image
pub mod Log
pub use Rattle.charmlet_merge.specs.Combined
pub use Rattle.charmlet_replayers.specs.declared.replayer.replayer
pub use Rattle.charmlet_replayers.specs.Replayer.Tasks
pub use Rattle.charmlet_replayers.specs.Replayer.Workers
