pub mod Talk
pub mod Longest
pub mod Reasons
pub mod Secrecy
pub mod Runs
pub mod Slices
pub mod Failures
pub mod Determined
