pub mod Computing
pub mod Taking
pub mod Judging
pub mod Accepted
