pub mod Heights
pub mod Gaps
