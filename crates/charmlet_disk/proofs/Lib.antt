pub mod Leaving
pub mod Moments
pub mod Records
pub mod Tears
pub mod AnyDiskLemmas
