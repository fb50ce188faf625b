pub mod Earliest
pub mod Tree
