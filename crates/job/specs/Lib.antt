pub mod Jobs
pub mod inner
