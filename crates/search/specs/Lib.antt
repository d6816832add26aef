pub mod columns
pub mod inner
