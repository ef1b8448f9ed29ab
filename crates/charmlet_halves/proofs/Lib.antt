-- Lemmas on two halves.
pub mod Quiet
pub mod Splits
pub mod Appending
pub mod Standing
pub mod Gates
pub mod Switching
pub mod Begun
pub mod NewHalves
