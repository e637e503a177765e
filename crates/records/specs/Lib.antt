pub mod Digits
pub mod Ends
pub mod Records
pub mod Rulings
