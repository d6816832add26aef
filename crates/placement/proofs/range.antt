pub mod Columned
pub mod Same
