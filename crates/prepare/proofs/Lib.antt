pub mod Tabled
pub mod Preparing
