pub mod Ending
pub mod Begin
