pub mod fill_laws
pub mod step_promises
