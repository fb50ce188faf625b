pub mod RunLemmas
pub mod PlanLemmas
pub mod OwedLemmas
pub mod BatchLemmas
pub mod FireLemmas
