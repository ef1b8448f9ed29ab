-- Lemmas of the plain program.
pub mod Failures
pub mod CatchUpLoops
pub mod EventLoops
pub mod OffsetLemmas
pub mod PartLemmas
pub mod Versions
