-- One run of the program is one step of the lives of an office.
pub mod CleanLemmas
pub mod KeptLemmas
pub mod LeftLemmas
pub mod MadeLemmas
pub mod ServedLemmas
pub mod VacantLemmas
pub mod VisitLemmas
pub mod WalkLemmas
