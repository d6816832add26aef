pub mod Turns
pub mod KeptTurn
pub mod Passes
