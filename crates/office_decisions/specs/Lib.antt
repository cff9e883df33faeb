pub mod OverFacts
pub mod RowsTaken
