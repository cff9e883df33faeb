pub mod Ended
pub mod Partial
