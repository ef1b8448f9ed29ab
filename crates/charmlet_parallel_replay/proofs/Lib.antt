-- Lemmas on what several replayers make of a half.
pub mod Redone
pub mod Sharing
pub mod Repeating
pub mod ImageLemmas
pub mod LogLemmas
