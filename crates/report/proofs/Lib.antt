pub mod Agree
pub mod Reporting
pub mod Cutting
