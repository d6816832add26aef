pub mod sheet
pub mod inner
