pub mod Tabled
pub mod inner
