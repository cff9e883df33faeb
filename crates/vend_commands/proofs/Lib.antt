pub mod AnsweredLemmas
pub mod ConnectionLemmas
pub mod RunLemmas
pub mod SelfcheckLemmas
pub mod UnwatchedLemmas
pub mod WordLemmas
