pub mod Placed
pub mod Printing
