-- Lemmas on the rule of a queue.
pub mod Moves
