pub mod Putting
pub mod Readying
