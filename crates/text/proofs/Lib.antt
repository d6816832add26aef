pub mod ByKind
pub mod Replies
