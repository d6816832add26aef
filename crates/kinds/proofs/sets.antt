pub mod Computing
pub mod Reading
pub mod Accepted
