pub mod Steps
pub mod Conversation
pub mod Tests
pub mod Rulings
