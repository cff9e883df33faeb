pub mod Fault
pub mod NoOffice
pub mod Opening
