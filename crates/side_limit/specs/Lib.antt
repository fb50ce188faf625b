pub mod LimitValue
pub mod LimitView
