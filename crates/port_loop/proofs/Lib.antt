pub mod Dialect
pub mod Speaking
pub mod Windows
pub mod Fronts
pub mod Behind
pub mod Reading
pub mod Lengths
