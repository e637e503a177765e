pub mod Rules
pub mod Tests
pub mod Rulings
