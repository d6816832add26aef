pub mod ByKind
pub mod Handed
