pub mod Testing
pub mod SameTest
