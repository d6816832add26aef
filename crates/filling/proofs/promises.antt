pub mod Few
pub mod Suffice
pub mod Numbers
pub mod Stays
pub mod Back
pub mod Offcut
pub mod Left
pub mod Doubles
