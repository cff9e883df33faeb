-- What holds of an office over requests, stops and lives.
pub mod Apart
pub mod Imports
pub mod Life
pub mod LifeLaws
pub mod OfficeLaws
pub mod Reached
pub mod SoldTokens
