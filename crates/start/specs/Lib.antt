pub mod replies
pub mod ordered
pub mod Answered
