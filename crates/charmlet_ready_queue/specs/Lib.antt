-- The definitions that contracts cite.
pub mod Births
pub mod Index
