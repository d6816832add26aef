pub mod Frames
pub mod inner
