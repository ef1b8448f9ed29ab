-- The definitions that contracts cite.
pub mod Kept
pub mod Routed
