pub mod PieceLemmas
pub mod NumberLemmas
pub mod TurnLemmas
pub mod TallyLemmas
pub mod LawLemmas
pub mod SpelledLengthLemmas
pub mod SaidLemmas
pub mod GroupsLemmas
pub mod LimitLemmas
pub mod ShapeLemmas
pub mod BesideLemmas
pub mod SolidLemmas
pub mod ValueReadLemmas
pub mod ActReadLemmas
pub mod EntryReadLemmas
pub mod TraceReadLemmas
mod Examples
