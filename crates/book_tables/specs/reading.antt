pub mod Questions
pub mod Found
pub mod Reading
pub mod Seen
