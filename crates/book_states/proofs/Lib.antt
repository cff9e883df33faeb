pub mod FailingLemmas
pub mod OthersLemmas
pub mod StayLemmas
