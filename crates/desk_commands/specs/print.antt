pub mod FoundTexts
pub mod ListTexts
pub mod Pages
pub mod TotalsLine
