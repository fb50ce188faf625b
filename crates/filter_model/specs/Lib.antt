pub mod Filter
pub mod FilterLaws
pub mod Switched
pub mod Running
pub mod Stopping
pub mod FilterRun
pub mod FilterStep
pub mod FilterCuts
