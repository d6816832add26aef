pub mod Computing
pub mod Turned
pub mod Framing
pub mod Zeros
