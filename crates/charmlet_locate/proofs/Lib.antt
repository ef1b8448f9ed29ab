pub mod AtHome
pub mod Sums
