pub mod Swapping
pub mod Halves
pub mod Rounds
pub mod Turning
