pub mod AskLemmas
pub mod KeyLemmas
pub mod PlanLemmas
pub mod Walks
