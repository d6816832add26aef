pub mod Running
pub mod NextTurn
