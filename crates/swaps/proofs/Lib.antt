pub mod Going
