pub mod Computing
pub mod Cases
