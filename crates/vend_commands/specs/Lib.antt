pub mod Run
pub mod commands
pub mod port
pub mod serving
