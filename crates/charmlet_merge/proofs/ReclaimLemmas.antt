-- What is in a stock once nothing is left on shelves.
pub mod Gathered
