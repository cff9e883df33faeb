pub mod Ask
pub mod Body
pub mod Endpoint
pub mod Examples
pub mod Fault
pub mod Parts
pub mod Target
pub mod Value
