pub mod BucketLaws
pub mod Buckets
pub mod Levels
pub mod Limit
pub mod Spells
