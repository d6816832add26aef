pub mod Computing
pub mod Tables
pub mod Rows
pub mod Heads
pub mod Accepted
