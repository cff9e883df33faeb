pub mod AuditLines
pub mod Exported
pub mod Listing
pub mod Opening
pub mod Totalled
