pub mod Replied
pub mod standing
pub mod withdraw_copy
