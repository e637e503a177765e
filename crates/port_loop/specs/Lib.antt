pub mod St
pub mod Port
pub mod Turns
pub mod Rulings
