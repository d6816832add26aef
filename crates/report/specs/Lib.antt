pub mod readied
pub mod offcut
pub mod on_sheet
pub mod Lent
pub mod inner
