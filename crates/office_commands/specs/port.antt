pub mod Back
pub mod Found
pub mod Names
pub mod Places
