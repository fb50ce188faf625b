pub mod NoZeros
pub mod OwnPort
pub mod Turning
