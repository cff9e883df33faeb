pub mod Metered
pub mod Quoted
pub mod Timed
pub mod Trial
pub mod Tried
