pub mod CopyOrder
pub mod Rounds
pub mod Nest
pub mod Text
pub mod Case4
pub mod Sheets
pub mod Cases
pub mod RefusalLines
