pub mod Law
pub mod Lists
