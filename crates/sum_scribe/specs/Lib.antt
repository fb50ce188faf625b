pub mod Sums
pub mod SumScribeView
