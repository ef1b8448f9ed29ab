pub mod Keeps
pub mod GhostAuthLemmas
