pub mod Steps
pub mod Rulings
