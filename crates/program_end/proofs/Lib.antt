pub mod ListPart
pub mod ComplaintLemmas
pub mod TurnCountLemmas
pub mod PlannedLemmas
pub mod StopLemmas
pub mod StatusLemmas
