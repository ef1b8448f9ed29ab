pub mod Continuing
pub mod Endings
pub mod Openings
pub mod Restarts
pub mod Showings
pub mod Standings
pub mod Naming
pub mod CommandLemmas
