pub mod Written
pub mod inner
