-- Lemmas on a client's row, and on all of them.
pub mod Rows
pub mod FilledRows
-- Lemmas on replies of a history.
pub mod Once
pub mod OfEvents
pub mod Kept
pub mod Whole
