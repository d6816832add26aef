pub mod JobBits
pub mod Given
pub mod JobTables
pub mod JobFields
pub mod Replies
pub mod inner
