pub mod Counting
pub mod Rooms
pub mod Lending
