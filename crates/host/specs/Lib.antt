pub mod Commands
pub mod Ranges
pub mod Refusals
pub mod Promise
pub mod Rulings
