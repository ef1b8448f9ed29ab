pub mod Lists
pub mod Entries
pub mod Whole
pub mod SealedBytes
