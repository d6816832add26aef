pub mod Taking
pub mod Added
pub mod Kept31
pub mod Batches
pub mod Operations
