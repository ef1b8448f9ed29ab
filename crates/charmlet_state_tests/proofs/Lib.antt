pub mod OpeningFit
pub mod Outcomes
