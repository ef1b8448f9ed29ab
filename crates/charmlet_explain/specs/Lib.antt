-- The definitions that contracts cite.
pub mod Finding
pub mod Ending
