pub mod Export
pub mod File
pub mod Import
pub mod Output
pub mod Reader
pub mod Receipt
pub mod Report
pub mod Text
