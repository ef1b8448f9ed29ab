-- Lemmas on what a scan dispatches.
pub mod Parts
pub mod ReplayerLists
pub mod Onward
pub mod One
pub mod Progress
