pub mod Stood
pub mod Without
pub mod Leaves
