pub mod DeskListLemmas
pub mod PageLemmas
pub mod PageOrderLemmas
pub mod TableLemmas
