pub mod PassingLemmas
pub mod PassingByLemmas
