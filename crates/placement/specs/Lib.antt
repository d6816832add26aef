pub mod range
pub mod inner
