pub mod RingText
pub mod Program
pub mod RingWants
pub mod Carried
