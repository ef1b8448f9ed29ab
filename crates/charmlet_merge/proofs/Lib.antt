-- Shelves that are taken from replayers, one after the other.
pub mod Taking
pub mod Counts
pub mod Joins
-- What replayers keep of their elements.
pub mod Maps
-- What they reply.
pub mod AllReplies
pub mod ReclaimLemmas
pub mod StoreLemmas
