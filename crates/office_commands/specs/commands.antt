pub mod Asked
pub mod AtFile
pub mod Audited
pub mod Imported
pub mod LookedUp
pub mod Reported
