pub mod PartitionLemmas
pub mod WorldLemmas
pub mod RoutingLemmas
