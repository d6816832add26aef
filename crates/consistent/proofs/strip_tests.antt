pub mod Bounding
pub mod Everyone
pub mod GapTests
