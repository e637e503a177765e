pub mod Memories
mod Becomes
pub mod Written
mod Erased
pub mod Protected
pub mod Lengths
