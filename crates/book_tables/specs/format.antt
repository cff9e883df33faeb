pub mod Filling
pub mod Format
pub mod Making
