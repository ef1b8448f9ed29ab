-- The definitions that contracts cite.
pub mod Index
pub mod Turns
