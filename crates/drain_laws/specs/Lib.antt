pub mod CanDrain
pub mod DrainBound
