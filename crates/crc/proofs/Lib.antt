pub mod CheckValue
mod Fed
