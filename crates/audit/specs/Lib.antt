pub mod Audited
pub mod Fails
pub mod Passed
pub mod Shown
