pub mod Sessions
pub mod Promise
