pub mod Commands
pub mod Why
pub mod Decision
pub mod Tests
pub mod Progress
pub mod Says
pub mod Numbers
pub mod BenchBoard
