pub mod Places
pub mod Faults
pub mod Turns
pub mod Bytes
pub mod Marks
pub mod Verdicts
pub mod Outcomes
pub mod Answers
