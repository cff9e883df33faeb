pub mod Selfchecked
pub mod Unread
