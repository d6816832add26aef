pub mod Fields
pub mod Laying
pub mod Parts
