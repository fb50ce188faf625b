pub mod BitLemmas
pub mod WordLemmas
pub mod NextLemmas
pub mod WalkLemmas
pub mod TopLemmas
