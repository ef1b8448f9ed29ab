pub mod Shelved
pub mod Showing
pub mod Looks
pub mod Theres
pub mod Lifting
pub mod Residents
pub mod Upgrades
pub use Rattle.charmlet_migrate.proofs.EachShelf
