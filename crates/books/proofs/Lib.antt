mod AlongLemmas
mod AttemptLemmas
mod FoundLemmas
mod FreshLemmas
mod HeadlineLemmas
mod KnownLemmas
mod LastSaleLemmas
mod NothingLemmas
mod OpenedLemmas
pub mod OthersLemmas
mod PageLemmas
mod PathLemmas
mod ReadLemmas
mod ReopenLemmas
mod ServeLemmas
