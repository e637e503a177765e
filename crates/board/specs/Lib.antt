pub mod Board
pub mod Quantities
pub mod Regions
pub mod Usd
pub mod View
pub mod Rulings
