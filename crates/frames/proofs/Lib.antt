pub mod Frames
pub mod Cutting
