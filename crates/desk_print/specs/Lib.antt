pub mod Digits
pub mod Prints
pub mod Adds
