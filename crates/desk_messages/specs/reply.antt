pub mod Body
pub mod Head
pub mod HttpDate
pub mod Json
pub mod Lists
pub mod Records
pub mod Text
