-- The office over plain lists.
pub mod FitsLemmas
pub mod LookUpLemmas
pub mod PlainRowLemmas
