pub mod AddressLemmas
pub mod DescriptionLemmas
pub mod LineLemmas
pub mod SayLemmas
