pub mod SeqNosLemmas
pub mod IndexLemmas
