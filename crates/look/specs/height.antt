pub mod Smallest
pub mod inner
