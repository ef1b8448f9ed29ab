pub mod TicketsLemmas
pub mod SeatsLemmas
pub mod PassesLemmas
