pub mod After
pub mod Allowed
pub mod Kept
pub mod Steps
