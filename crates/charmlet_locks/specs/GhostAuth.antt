-- The definitions that contracts cite.
pub mod Agreement
pub mod Naming
