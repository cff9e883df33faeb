-- The date and the time of day that a clock in UTC shows, and the months since January 1993.
use Rattle.std.specs.Prelude.{◌≡◌, ℕ, ◌+◌, ◌-◌, ◌*◌, ◌/◌, ◌%◌, ◌<◌, ℤ, pos, ◌+ℤ◌, ◌-ℤ◌, ◌*ℤ◌}
use Rattle.std.specs.Prelude.{int_le, unsigned_abs}
use Rattle.std.specs.Int.{IsInRange}
use Rattle.std.specs.List.{count_by, range_with_len}
pub use Rattle.jiff_core.specs.Calendar.{days_from_civil, IsCivilDate}
use Rattle.sts_fields.specs.Moment.{UnixSeconds}
use Rattle.sts_fields.specs.declared.calendar.date_time.Civil.{Civil}

-- how many days the date lies after 1 January 1970
abbrev pub day_number : Civil → ℤ
day_number c = days_from_civil (pos c.year) c.month c.day

-- the seconds since midnight
abbrev pub time_of_day : Civil → ℕ
time_of_day c = c.hour * 3600 + c.minute * 60 + c.second

-- a clock in UTC shows c at these Unix seconds: a date that the calendar has, and a time of day
pub record IsCivil (secs : UnixSeconds) (c : Civil) : Type 0 where
  pub date : IsCivilDate (pos c.year) c.month c.day
  pub hour : c.hour < 24
  pub minute : c.minute < 60
  pub second : c.second < 60
  pub seconds : day_number c *ℤ pos 86400 +ℤ pos (time_of_day c) ≡ pos secs

-- the months from January 1993 to the month of the date
abbrev pub month_number : Civil → ℕ
month_number c = (c.year - 1993) * 12 + (c.month - 1)

-- the year is one of 1993 to 2099, and the other parts are those that a calendar and a clock have
pub record IsWithinRanges (c : Civil) : Type 0 where
  pub year : IsInRange 1993 2099 c.year
  pub month : IsInRange 1 12 c.month
  pub day : IsInRange 1 31 c.day
  pub hour : c.hour < 24
  pub minute : c.minute < 60
  pub second : c.second < 60

-- the day on which the nth month after January 1993 begins
unfoldable pub first_day : ℕ → ℤ
first_day n = days_from_civil (pos (1993 + n / 12)) (n % 12 + 1) 1

-- how many of the months from February 1993 to December 2099 have begun by these Unix seconds
unfoldable pub month_at : UnixSeconds → ℕ
month_at secs = count_by (λ n. int_le (first_day n) (pos (secs / 86400))) (range_with_len 1 1283)

-- what a clock in UTC shows from 1993 to 2099, by the month and the days since it began:
-- `IsCivil` says what it is
unfoldable pub civil_at : UnixSeconds → Civil
civil_at secs =
    let n = month_at secs in
    record {
      year = 1993 + n / 12;
      month = n % 12 + 1;
      day = unsigned_abs (pos (secs / 86400) -ℤ first_day n) + 1;
      hour = secs / 3600 % 24;
      minute = secs / 60 % 60;
      second = secs % 60;
    }

-- 00:00:00 on the first of January
abbrev pub new_year : ℕ → Civil
new_year year = record { year = year; month = 1; day = 1; hour = 0; minute = 0; second = 0 }
