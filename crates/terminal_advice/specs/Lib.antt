pub mod Advice
pub mod Advised
pub mod Doubt
pub mod LastLine
pub mod Lines
pub mod Refused
pub mod Remembers
