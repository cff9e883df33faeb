pub mod Edited
pub mod Failing
pub mod Keeping
pub mod Putting
pub mod Storing
pub mod Telling
pub mod Writes
pub mod Writing
