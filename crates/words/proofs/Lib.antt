pub mod Tests
pub mod Over
pub mod Slices
pub mod Bytes
pub mod Pieces
