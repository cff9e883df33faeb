pub mod MeteringLemmas
pub mod TakeLemmas
pub mod TimedLemmas
pub mod TrialLemmas
pub mod WaitLemmas
