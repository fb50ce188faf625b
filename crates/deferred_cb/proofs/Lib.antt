pub mod EntryLemmas
pub mod CallLemmas
