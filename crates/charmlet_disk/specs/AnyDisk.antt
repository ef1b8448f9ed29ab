-- The definitions that contracts cite.
pub mod AnyDisk
pub mod AnyDiskLaws
