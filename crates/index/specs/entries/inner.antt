pub mod Walk
pub mod Cursors
