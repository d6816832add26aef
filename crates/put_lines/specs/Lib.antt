pub mod PutLines
pub mod inner
