pub mod BringingLemmas
pub mod CauseLemmas
pub mod EndingLemmas
pub mod LookingLemmas
