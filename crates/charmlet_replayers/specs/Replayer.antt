-- The definitions that contracts cite.
pub mod Replayers
pub mod Tasks
pub mod Workers
pub mod Merging
pub mod Staying
