pub mod Given
pub mod Reported
pub mod Plans
pub mod Ordered
