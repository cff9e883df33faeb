pub mod AmountLemmas
pub mod CalendarLemmas
pub mod DayLemmas
pub mod TidLemmas
