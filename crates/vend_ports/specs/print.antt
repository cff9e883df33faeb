pub mod Printed
pub mod Sink
pub mod Told
