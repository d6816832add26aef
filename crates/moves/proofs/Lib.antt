pub mod MovedUp
