pub mod Alike
pub mod Begin
pub mod Between
pub mod Ready
pub mod Copies
pub mod Layouts
