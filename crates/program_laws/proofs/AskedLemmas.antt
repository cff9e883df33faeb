-- What a command printed of a desk is what a run of `serve` told it.
pub mod LifeLemmas
pub mod TalkLemmas
pub mod SaysLemmas
pub mod PageSaysLemmas
pub mod PrintsLemmas
pub mod CommandLemmas
pub mod ServedLemmas
