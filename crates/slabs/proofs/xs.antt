pub mod Lines
pub mod SortedXs
pub mod Runs
