pub mod Following
pub mod Raising
pub mod Counting
pub mod Comparing
