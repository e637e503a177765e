mod Entries
mod Linear
mod OutsideValues
pub mod Words
