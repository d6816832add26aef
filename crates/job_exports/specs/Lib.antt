pub mod JobTold
