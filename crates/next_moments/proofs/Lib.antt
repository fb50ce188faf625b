pub mod OrderLemmas
pub mod TreeLemmas
