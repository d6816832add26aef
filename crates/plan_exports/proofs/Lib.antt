pub mod Lining
pub mod Numbering
