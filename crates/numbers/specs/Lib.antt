pub mod Numbers
