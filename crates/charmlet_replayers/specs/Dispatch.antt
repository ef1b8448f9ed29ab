-- The definitions that contracts cite.
pub mod Blank
pub mod Dispatched
pub mod Keeping
pub mod Sharing
