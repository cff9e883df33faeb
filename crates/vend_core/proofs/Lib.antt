pub mod LawLemmas
pub mod LifeLemmas
pub mod ListsLemmas
