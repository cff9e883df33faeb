pub mod Status
pub mod commands
pub mod port
pub mod print
