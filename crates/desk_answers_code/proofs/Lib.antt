pub mod Passing
pub mod Explaining
