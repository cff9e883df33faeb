pub mod Meter
pub mod Probe
pub mod Store
pub mod StoreLaws
