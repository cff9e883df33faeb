pub mod ChangeLemmas
pub mod CommitLemmas
pub mod StoredLemmas
