pub mod Strips
pub mod inner
