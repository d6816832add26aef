pub mod MaySwap
pub mod Drawing
pub mod Judging
