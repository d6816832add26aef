pub mod Slots
pub mod Storing
pub mod Verdicts
pub mod Lines
