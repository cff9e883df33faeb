mod CashLemmas
mod EntryLemmas
mod LivedLemmas
mod SoldLemmas
mod TransformLemmas
