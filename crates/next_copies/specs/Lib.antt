pub mod Answer
pub mod take_all
