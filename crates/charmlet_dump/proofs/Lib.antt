-- What is written of the proofs.
pub mod Findings
pub mod Numbers
pub mod Printing
pub mod Wording
