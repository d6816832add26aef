pub mod step_job
pub mod inner
