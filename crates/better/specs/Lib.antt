pub mod round_laws
pub mod inner
