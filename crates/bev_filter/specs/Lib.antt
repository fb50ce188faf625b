pub mod Passing
pub mod StepRoom
pub mod PassingBy
