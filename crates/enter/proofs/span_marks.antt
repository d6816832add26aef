pub mod NewIn
pub mod Spans
pub mod Marking
