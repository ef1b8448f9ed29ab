-- The definitions that contracts cite.
pub mod Tickets
pub mod Seats
pub mod Passes
pub use Rattle.charmlet_locks.specs.GhostAuth.Naming
