pub mod AskedOfDesk
pub mod Exchanged
pub mod ListedAtDesk
pub mod PageOrder
pub mod print
