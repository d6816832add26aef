pub mod Rounds
pub mod Demand1
pub mod Refused
pub mod Replies
