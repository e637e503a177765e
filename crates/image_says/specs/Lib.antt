pub mod Tally
pub mod Messages
pub mod Rulings
