pub mod Steps
pub mod Carried
pub mod Good
pub mod First
