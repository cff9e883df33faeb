pub mod Fields
pub mod Framing
pub mod Front
pub mod Heads
pub mod MessageFault
pub mod Messages
pub mod Next
pub mod Target
