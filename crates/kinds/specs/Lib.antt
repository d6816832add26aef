pub mod sets
pub mod Kinds
pub mod inner
