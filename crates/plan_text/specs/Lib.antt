pub mod Told
pub mod Program
