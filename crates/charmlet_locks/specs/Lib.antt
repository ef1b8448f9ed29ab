-- The definitions that contracts cite.
pub mod Home
pub mod Locks
pub mod GhostAuth
