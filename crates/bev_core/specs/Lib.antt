pub mod BevValue
pub mod BevView
pub mod BufferValue
pub mod BufferView
pub mod ChainedView
pub mod Moves
pub mod Refusals
pub mod Steps
