pub mod GrowthLemmas
pub mod PlayedLemmas
pub mod FewLemmas
pub mod ReportLemmas
pub mod RunLemmas
pub mod TellLemmas
