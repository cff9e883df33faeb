pub mod ImportWalkLemmas
pub mod OverFactsLemmas
pub mod TakenLemmas
