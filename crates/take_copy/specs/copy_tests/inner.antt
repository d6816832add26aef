pub mod CopyTest
