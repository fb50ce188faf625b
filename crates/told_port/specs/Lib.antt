pub mod Grown
pub mod Calls
