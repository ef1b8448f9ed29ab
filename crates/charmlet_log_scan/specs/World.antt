-- The definitions that contracts cite.
pub mod Clients
pub mod Deliverable
