pub mod Bits
pub mod Reading
pub mod Fields
pub mod inner
