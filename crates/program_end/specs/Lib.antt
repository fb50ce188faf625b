pub mod EndStatus
pub mod Complains
pub mod Planned
