pub mod Numbers
pub mod Code
pub mod Next
pub mod Words
pub mod Walks
pub mod WalkView
