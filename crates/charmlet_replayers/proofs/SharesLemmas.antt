-- Sums over replayers.
pub mod Sums
pub mod AddUp
