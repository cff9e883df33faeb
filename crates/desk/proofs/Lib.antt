pub mod AlongLemmas
pub mod AskLemmas
pub mod OneLemmas
pub mod ServingLemmas
