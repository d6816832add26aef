pub mod SheetRoom
