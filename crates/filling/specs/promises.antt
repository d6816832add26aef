pub mod Ample
pub mod Doubles
