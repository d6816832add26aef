pub mod Walking
pub mod Numbers
pub mod Loops
