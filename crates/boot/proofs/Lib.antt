pub mod Sound
pub mod Good
pub mod Accept
pub mod Causes
pub mod Silent
pub mod Slices
pub mod Firm
