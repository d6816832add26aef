pub mod height
pub mod Looking
pub mod inner
