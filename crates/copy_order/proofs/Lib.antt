pub mod Priorities
pub mod Lines
pub mod Laying
pub mod Sorted
pub mod Tabling
pub mod Rearranged
