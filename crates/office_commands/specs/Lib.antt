pub mod commands
pub mod office
pub mod port
pub mod print
