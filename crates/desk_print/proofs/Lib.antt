pub mod Spelling
pub mod Printing
pub mod Adding
