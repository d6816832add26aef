pub mod Counting
pub mod Laying
pub mod Told
