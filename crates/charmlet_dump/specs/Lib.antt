-- The definitions that contracts cite.
pub mod Constructing
pub mod Facts
pub mod Plain
pub mod Json
pub mod Lines
pub mod Writing
pub mod Answers
pub mod Dump
pub mod Arguments
pub mod Usage
pub mod Ending
