pub mod Assigning
pub mod Places
pub mod Leaving
pub mod Delivering
pub mod Counting
pub mod Turning
pub mod Entering
pub use Rattle.charmlet_history.proofs.Orders
