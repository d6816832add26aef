pub mod SameSlots
pub mod SameTests
pub mod Cases
pub mod FirstNumbers
