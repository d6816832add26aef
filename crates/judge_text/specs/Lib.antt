pub mod Judging
pub mod inner
