-- The definitions that contracts cite.
pub mod Replies
pub mod Filled
pub mod Laws
