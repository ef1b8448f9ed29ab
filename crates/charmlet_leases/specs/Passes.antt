-- The definitions that contracts cite.
pub mod Passes
pub mod Steps
