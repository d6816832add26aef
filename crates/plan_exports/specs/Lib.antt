pub mod Lined
pub mod Numbered
