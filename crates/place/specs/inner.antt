pub mod Placing
pub mod Standing
