mod AgainLemmas
mod AskedLemmas
mod AtDeskLemmas
pub mod CourseLemmas
mod DeskLemmas
mod FoundLemmas
mod KeyedLemmas
mod LeadLemmas
pub mod LookupLemmas
mod OfferLemmas
mod OrderLemmas
mod PromiseLemmas
mod ReceiptLemmas
mod RunsLemmas
mod SellLemmas
mod SoundLemmas
mod StepLemmas
mod ToldLemmas
mod WholeLemmas
mod WordLemmas
