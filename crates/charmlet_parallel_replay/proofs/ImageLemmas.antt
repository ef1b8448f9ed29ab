-- Lemmas on how replayers bring an image back.
pub mod Wanted
pub mod Own
pub mod Keeping
pub mod Restoring
pub mod Counting
pub mod Counted
pub mod Results
pub mod Lists
pub mod Giving
pub mod Filled
pub mod Brought
pub mod Worlds
pub mod Empty
