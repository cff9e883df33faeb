pub mod Pages
pub mod Days
pub mod Questions
