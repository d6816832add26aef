pub mod set_strips
pub mod slots
pub mod inner
