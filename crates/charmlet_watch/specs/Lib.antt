-- The definitions that contracts cite.
pub mod Log
pub mod Moments
pub mod Entries
