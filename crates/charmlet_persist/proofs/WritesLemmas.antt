-- Lemmas on what halves keep.
pub mod Closed
pub mod Parts
pub mod Resting
pub mod FlushLemmas
pub mod Turning
pub mod Making
pub mod Quietness
