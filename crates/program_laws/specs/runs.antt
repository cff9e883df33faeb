-- Runs of the program on one file, each of which goes on from the lives before it.
pub mod Readings
pub mod Words
pub mod Uses
pub mod Files
pub mod Here
pub mod Steps
pub mod Asked
pub mod EachRun
pub mod Promise
