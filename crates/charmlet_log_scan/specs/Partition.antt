-- The definitions that contracts cite.
pub mod Parts
pub mod Laws
pub mod Dispatch
pub mod Known
pub mod DispatchLaws
