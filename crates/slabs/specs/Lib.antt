pub mod xs
pub mod Slab
pub mod inner
