pub mod Computing
pub mod EdgeTable
pub mod Boxes
pub mod Slanted
pub mod SlabWalk
pub mod Laying
pub mod Sizes
pub mod Cases
