pub mod RepliesLemmas
pub mod ReplayerLemmas
pub mod SharesLemmas
pub mod DispatchLemmas
