pub mod Printing
pub mod Spelled
pub mod ReadBack
