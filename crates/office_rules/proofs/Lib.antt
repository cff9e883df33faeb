pub mod DecisionLemmas
pub mod NameLemmas
pub mod OfficeLemmas
pub mod RefusalLemmas
pub mod StoreLemmas
