pub mod Computing
pub mod IntervalEnds
pub mod Counted
pub mod Answering
pub mod OnGrid
