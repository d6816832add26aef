pub mod Storing
pub mod Putting
pub mod Finishing
