-- Lemmas on what a scan keeps.
pub mod AsWritten
pub mod Going
pub mod Performed
pub mod Suits
pub mod Scanning
pub mod Following
pub mod Committing
pub mod WithWords
