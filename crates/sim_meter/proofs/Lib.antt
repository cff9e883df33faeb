pub mod MeterLemmas
pub mod PlaceLemmas
pub mod ProbeLemmas
pub mod StoreLemmas
