pub mod PassedLemmas
pub mod ShownLemmas
pub mod SoundLemmas
pub mod ToldLemmas
