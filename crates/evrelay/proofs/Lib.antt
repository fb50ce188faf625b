pub mod KeepLastLemmas
pub mod RingLemmas
pub mod SpeltLemmas
pub mod RingWantsLemmas
pub mod ProgramLemmas
pub mod RingKeptLemmas
pub mod CarriedLemmas
