pub mod Gauges
pub mod Grouped
pub mod Meaning
pub mod HookLaws
pub mod ToFire
pub mod BucketLaws
