pub mod Bytes
pub mod Lists
pub mod Over
pub mod Hex
pub mod Texts
