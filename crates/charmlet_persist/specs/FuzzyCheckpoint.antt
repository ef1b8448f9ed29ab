-- The definitions that contracts cite.
pub mod Checkpoint
pub mod Laws
pub mod Sealing
