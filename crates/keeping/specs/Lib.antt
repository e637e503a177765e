pub mod Kept
pub mod Rulings
