-- The definitions that contracts cite.
pub mod Done
pub mod Laws
