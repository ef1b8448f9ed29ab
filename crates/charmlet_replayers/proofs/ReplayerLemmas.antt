-- Tasks that are done, one after the other.
pub mod Redone
pub mod Doing
-- Replayers, and where they stop.
pub mod ReplayerLemmas
pub mod ReplayerStops
pub mod StopLoop
pub mod Zips
pub mod ByWorkers
pub mod TasksByWorkers
-- What becomes of the replayers' shelves and records.
pub mod Combined
pub mod Merged
pub mod StaysGood
pub mod TaskWords
