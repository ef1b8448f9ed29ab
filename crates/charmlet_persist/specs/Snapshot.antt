-- The definitions that contracts cite.
pub mod Showing
pub mod Imaging
