pub mod Answers
pub mod Grammar
pub mod Pair
pub mod PlayerView
pub mod Run
