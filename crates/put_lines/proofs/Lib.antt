pub mod Numerals
pub mod Fields
pub mod Listing
