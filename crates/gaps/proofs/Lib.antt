pub mod Before
pub mod Opening
pub mod Tail
pub mod Inserting
