pub mod SetStrips
