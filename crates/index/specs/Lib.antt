pub mod entries
pub mod Buckets
pub mod Intervals
pub mod inner
