pub mod Place
pub mod Needle
pub mod Ends
pub mod Lines
