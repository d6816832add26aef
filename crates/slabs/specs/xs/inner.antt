pub mod Xs
