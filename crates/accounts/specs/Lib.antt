pub mod tables
pub mod order
pub mod inner
