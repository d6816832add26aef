pub mod EntryRoom
pub mod Gaps
