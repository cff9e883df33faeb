-- What the witnesses conclude, and what they make values of.
pub mod Asking
pub mod Offices
pub mod Older
pub mod Printed
pub mod Readings
pub mod Recorded
pub mod Runs
pub mod Sold
pub mod Talks
