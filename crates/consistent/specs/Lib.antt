pub mod strip_tests
pub mod slot_tests
pub mod copy_tests
pub mod inner
