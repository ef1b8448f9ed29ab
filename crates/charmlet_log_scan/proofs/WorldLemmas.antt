-- Lemmas on what is kept.
pub mod Delivering
pub mod RisenClients
