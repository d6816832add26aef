pub mod Moving
pub mod Cleared
pub mod EntryCounts
pub mod Left
