pub mod CopyCases
pub mod SameCopies
