pub mod Order
pub mod Queue
pub mod DueTimers
pub mod Handles
