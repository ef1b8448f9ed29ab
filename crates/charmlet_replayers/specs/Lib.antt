-- The definitions that contracts cite.
pub mod Replies
pub mod Replayer
pub mod Shares
pub mod Dispatch
