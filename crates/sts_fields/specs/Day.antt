-- Days of UTC, counted from 1 January 1993, their dates and their texts.
use Rattle.std.specs.Prelude.{◌≡◌, ℕ, ◌+◌, ◌/◌, ◌%◌, ◌≤◌, [], ◌∷◌, ◌++◌, pos, ◌+ℤ◌, ◌-ℤ◌}
use Rattle.std.specs.Prelude.{unsigned_abs}
use Rattle.jiff_core.specs.Calendar.{days_from_civil, IsCivilDate}
use Rattle.sts_fields.specs.Calendar.{civil_at, day_number}
use Rattle.sts_fields.specs.Moment.{UnixSeconds}
use Rattle.sts_fields.specs.Text.{Text, hyphen}
use Rattle.sts_fields.specs.declared.calendar.date_time.Civil.{Civil}

-- 2099-12-31
abbrev pub last_day : ℕ
last_day = 39080

-- the number is a day's
abbrev pub IsDay : ℕ → Type 0
IsDay day = day ≤ last_day

-- the calendar has this year, month and day of the month, and it is the day so many days after
-- 1 January 1993
pub record HasDate (day year month date : ℕ) : Type 0 where
  pub there : IsCivilDate (pos year) month date
  pub days : days_from_civil (pos year) month date ≡ days_from_civil (pos 1993) 1 1 +ℤ pos day

-- how many days the date lies after 1 January 1993
abbrev pub days_to : Civil → ℕ
days_to c = unsigned_abs (day_number c -ℤ days_from_civil (pos 1993) 1 1)

-- the day of UTC at these Unix seconds: that of the date that a clock shows
unfoldable pub day_at : UnixSeconds → ℕ
day_at secs = days_to (civil_at secs)

-- a number below a hundred in two digits
abbrev pub two_digits : ℕ → Text
two_digits n = (48 + n / 10) ∷ (48 + n % 10) ∷ []

-- a date as YYYY-MM-DD
unfoldable pub iso_date : ℕ → ℕ → ℕ → Text
iso_date year month date =
    two_digits (year / 100) ++ two_digits (year % 100)
    ++ hyphen ∷ two_digits month ++ hyphen ∷ two_digits date

-- text is the date of a day
pub record IsDayText (text : Text) (day : ℕ) : Type 0 where
  pub range : IsDay day
  pub year : ℕ
  pub month : ℕ
  pub date : ℕ
  pub dated : HasDate day year month date
  pub written : text ≡ iso_date year month date
