pub mod Pairs
pub mod Feeds
pub mod Good
