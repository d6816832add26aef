pub mod Strips
pub mod Widths
pub mod Firsts
pub mod Whole
