pub mod Deciding
pub mod Listing
pub mod Looking
pub mod Lookups
pub mod LookupsSeen
pub mod Totals
