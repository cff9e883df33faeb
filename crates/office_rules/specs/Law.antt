-- What rows and stores have of an office, and how an office grows.
pub mod Cash
pub mod Growth
pub mod Handed
pub mod NewSale
pub mod Store
