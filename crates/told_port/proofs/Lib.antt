pub mod Walks
pub mod GrownLemmas
pub mod TableLemmas
