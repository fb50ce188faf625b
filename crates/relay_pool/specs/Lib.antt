pub mod Over
pub mod Stays
pub mod PoolValue
pub mod PoolView
pub mod Space
