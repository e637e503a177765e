pub mod Sessions
pub mod Takes
