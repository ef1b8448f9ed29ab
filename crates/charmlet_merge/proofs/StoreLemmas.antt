-- What replayers have who have done all tasks.
pub mod AllDone
-- What a half gives.
pub mod Repeated
