pub mod Counts
pub mod Segments
pub mod ByKind
pub mod Turns
pub mod Looks
pub mod Plans
