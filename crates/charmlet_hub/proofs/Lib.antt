pub mod Steps
pub mod Hubs
pub mod Endings
pub mod Busy
pub mod Checkpoints
