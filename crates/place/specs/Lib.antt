pub mod next
pub mod inner
