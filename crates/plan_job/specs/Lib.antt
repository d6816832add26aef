pub mod fill_job
