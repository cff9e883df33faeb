pub mod FileLaws
pub mod InOrder
pub mod ListedLaws
pub mod MemoryLaws
