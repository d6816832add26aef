pub mod Computing
pub mod Headers
pub mod Whole
pub mod Accepted
