pub mod BitWriting
