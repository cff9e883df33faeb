pub mod Finds
pub mod Lasts
pub mod Prices
pub mod Shifts
pub mod Walk
