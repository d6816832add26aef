pub mod Judging
pub mod Preparing
pub mod Reading
pub mod Left
