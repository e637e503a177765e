pub mod Told
pub mod Why
pub mod Answers
pub mod Promise
pub mod Desk
pub mod Example
