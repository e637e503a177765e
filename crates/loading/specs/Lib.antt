pub mod Places
pub mod Loads
pub mod Says
pub mod Faults
pub mod Promise
pub mod Rulings
