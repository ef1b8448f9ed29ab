-- The definitions that contracts cite.
pub mod Partition
pub mod World
pub mod Routing
