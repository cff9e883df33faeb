-- The names that requests carry.
pub mod LuhnLemmas
pub mod ShortTextLemmas
