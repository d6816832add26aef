pub mod NextCopies
pub mod BatchCalls
pub mod inner
