pub mod Unless
pub mod Made
pub mod Good
pub mod First
