pub mod Steps
pub mod Same
pub mod Sizes
