-- Lemmas of the counts.
pub mod Ids
pub mod Steps
pub mod Arrays
pub mod CatchUps
pub mod Held
pub mod Rising
pub mod Batches
pub mod Totals
pub mod Kept
pub mod Answered
pub mod Left
pub mod Crashed
pub mod Stocks
pub mod RestartedLemmas
