pub mod Starts
pub mod Marks
pub mod GapFilling
pub mod OneStrip
pub mod Firsts
