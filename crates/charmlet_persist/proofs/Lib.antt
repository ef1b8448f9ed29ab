pub mod WritesLemmas
pub mod SnapshotLemmas
pub mod FuzzyCheckpointLemmas
