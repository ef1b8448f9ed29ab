-- The definitions that contracts cite.
pub mod Views
pub mod Parts
pub mod Written
