pub mod DeskFault
pub mod Meaning
pub mod Routes
pub mod reply
