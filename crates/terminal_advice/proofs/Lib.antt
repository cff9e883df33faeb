mod AdvisedLemmas
mod DoubtLemmas
mod LastLineLemmas
mod LineLemmas
mod RemembersLemmas
mod RunLemmas
mod TimeLemmas
