pub mod HeaderLaws
pub mod SheetLaws
pub mod JobLaws
pub mod Rooms
