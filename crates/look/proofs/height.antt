pub mod Computing
pub mod SmallestHeight
pub mod Passes
pub mod Rearranging
pub mod Clear
