pub mod Steps
pub mod Good
pub mod First
