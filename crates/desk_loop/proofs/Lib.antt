pub mod Hearing
pub mod Lengths
