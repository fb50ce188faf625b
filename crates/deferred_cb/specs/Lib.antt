pub mod DueCalls
pub mod DueValue
pub mod DueView
