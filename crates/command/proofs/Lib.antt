pub mod Progress
pub mod Holds
pub mod First
pub mod Says
mod BenchBoard
