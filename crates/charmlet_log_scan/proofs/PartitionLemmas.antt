-- Lemmas on replayers.
pub mod Parts
pub mod Stops
pub mod CatchUps
pub mod Events
pub mod Falling
-- Lemmas on blanks that are dispatched, and on ids that are given.
pub mod Dispatched
pub mod Giving
