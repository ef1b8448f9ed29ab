-- The definitions that contracts cite.
pub mod Keeping
pub mod Counts
pub mod Given
pub mod Filled
pub mod ImageRestored
