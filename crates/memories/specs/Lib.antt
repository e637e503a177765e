pub mod Memories
pub mod Lent
pub mod Protection
pub mod Effects
pub mod Meaning
