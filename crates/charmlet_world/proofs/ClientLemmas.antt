pub mod RowsLemmas
pub mod ShownLemmas
