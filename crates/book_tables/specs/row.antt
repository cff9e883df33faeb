pub mod Gathered
pub mod Parts
pub mod ReadBack
pub mod Rows
pub mod Values
