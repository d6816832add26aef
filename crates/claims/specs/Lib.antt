pub mod plan_promises
pub mod JobNumbers
pub mod LookNumbers
pub mod FramedJobs
pub mod BatchCases
pub mod LayoutCases
