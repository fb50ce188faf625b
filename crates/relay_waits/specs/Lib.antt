pub mod Numbered
pub mod DueSides
pub mod DueLaws
pub mod TimerSides
pub mod TimerLaws
pub mod WaitsValue
pub mod WaitsView
pub mod SideTimersView
