pub mod Seen
pub mod Served
pub mod Underway
