pub mod Connections
pub mod Listening
