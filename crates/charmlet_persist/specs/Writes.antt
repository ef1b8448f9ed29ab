-- The definitions that contracts cite.
pub mod Rest
pub mod NewStores
pub mod Quiet
