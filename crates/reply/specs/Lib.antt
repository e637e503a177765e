pub mod Fixed
pub mod Pieces
