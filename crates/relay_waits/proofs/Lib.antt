pub mod NumberLemmas
pub mod DueLemmas
pub mod TimerLemmas
pub mod HookLemmas
pub mod KeptLemmas
pub mod WaitLemmas
