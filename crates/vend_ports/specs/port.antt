pub mod Dial
pub mod Port
pub mod Sent
pub mod Texts
pub mod Waits
