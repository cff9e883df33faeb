-- The date of a reply, by the calendar of moments and by that of HTTP.
use Rattle.std.proofs.Common.{◌≡◌, ◌∙◌, ℕ, zero, suc, ◌+◌, ◌-◌, ◌/◌, ◌≤◌, true, false, Bool, Option, None, Some, refl, ap, sym, arith, ℤ, pos, negsuc, ◌≤ℤ◌}
use Rattle.std.specs.Prelude.{◌↔◌, ◌&&◌, IfSome, IsSome, nat_le}
use Rattle.std.proofs.lemmas.Bool.Decides.{nat_tests}
use Rattle.jiff_core.specs.Calendar as civil
use Rattle.jiff_core.proofs.SignedLemmas.{signed_arith}
use Rattle.jiff_core.proofs.CalendarLemmas.{day_count-day_of_year, day_count-epoch, day_count-next_year, days_from_civil-day_count}
use Rattle.httpdate.specs.declared.date.HttpDate.{HttpDate}
use Rattle.httpdate.specs.Calendar as dates
use Rattle.httpdate.specs.Date.{date_text, unix_secs}
use Rattle.httpdate.specs.Text.{imf_fixdate}
use Rattle.httpdate.specs.Valid.{IsValid, parts_secs}
use Rattle.httpdate.proofs.Theorems.{unix_secs_injective}
use Rattle.sts_fields.specs.Calendar.{IsCivil, IsWithinRanges, civil_at}
use Rattle.sts_fields.specs.Moment.{first_moment, last_moment}
use Rattle.desk_messages.specs.reply.HttpDate.{IsDateAt, http_date, moment_given, shown_at}

-- the first days of the years
first_of_year : (n : ℕ) → civil.day_count (pos (1970 + n)) 1 1 ≡ 4_371_953 + dates.days_of_years n
unfolding dates.days_of_years
first_of_year zero = day_count-epoch
first_of_year (suc n) =
    omega (
      arith,
      day_count-next_year (pos (1970 + n)) (pos (1970 + suc n)) (omega (arith, signed_arith)) (omega (arith, signed_arith)),
      first_of_year n,
    )

-- the days of the months before one
months_before : (y n : ℕ) → civil.days_of_months (pos y) n ≡ dates.days_of_months y n
unfolding civil.days_of_months dates.days_of_months
months_before y zero = refl
months_before y (suc n) = ap (λ d. d + dates.days_in_month y (suc n)) (months_before y n)

-- a day has one number in both calendars
same_days : (y m d : ℕ) → 1970 ≤ y → 1 ≤ d → civil.day_count (pos y) m d ≡ 4_371_953 + dates.days_from_civil y m d
same_days y m d from first =
    let year : 1970 + (y - 1970) ≡ y = omega arith in
    omega (arith, day_count-day_of_year (pos y) m d first, rw year at (first_of_year (y - 1970)), months_before y (m - 1))

module _ (secs : ℕ) (is : IsCivil secs (civil_at secs)) (within : IsWithinRanges (civil_at secs)) where
  -- the day of the date
  days_are : dates.days_from_civil (civil_at secs).year (civil_at secs).month (civil_at secs).day ≡ secs / 86400
  days_are =
      let c = civil_at secs in
      let year = within.year in
      let day = within.day in
      let hour = is.hour in
      let minute = is.minute in
      let second = is.second in
      let seconds = is.seconds in
      omega (
        arith,
        signed_arith,
        same_days c.year c.month c.day (omega arith) (omega arith),
        days_from_civil-day_count (pos c.year) c.month c.day,
      )

  shown_valid : IsValid (shown_at secs)
  shown_valid =
      let year = within.year in
      let day = is.date.2 in (
        ((omega arith, omega arith), within.month, day),
        (is.hour, is.minute, is.second),
        ap dates.weekday (sym days_are),
      )

  shown_seconds : parts_secs (shown_at secs) ≡ secs
  shown_seconds =
      let hour = is.hour in
      let minute = is.minute in
      let second = is.second in
      let seconds = is.seconds in
      let c = civil_at secs in
      let year = within.year in
      let day = within.day in
      omega (
        arith,
        signed_arith,
        same_days c.year c.month c.day (omega arith) (omega arith),
        days_from_civil-day_count (pos c.year) c.month c.day,
      )

  -- the calendar of HTTP has this date
  pub date_there : IsDateAt secs (http_date secs)
  unfolding http_date
  date_there = (
    record { parts = shown_at secs; civil = shown_valid.0; time = shown_valid.1; right_day = shown_valid.2 },
    shown_seconds,
    refl,
  )

  -- and has it once
  pub date_is : (date : HttpDate) → unix_secs date ≡ secs → date_text date ≡ http_date secs
  date_is date same =
      ap imf_fixdate (unix_secs_injective date date_there.0 (same ∙ sym date_there.1)) ∙ sym date_there.2

-- a test of a second gives the moment, where it is one
pub given_is : (second : ℤ) (result : Option ℕ) → (IsSome result ↔ ((pos first_moment ≤ℤ second) × (second ≤ℤ pos last_moment)))
    → IfSome result (λ moment. pos moment ≡ second) → result ≡ moment_given (Some second)
given_is (negsuc n) None range value = refl
given_is (negsuc n) (Some moment) range value = absurd (cc)
given_is (pos n) None range value = by (nat_le first_moment n && nat_le n last_moment) refl
  where
    by : (t : Bool) → (nat_le first_moment n && nat_le n last_moment) ≡ t → None ≡ moment_given (Some (pos n))
    by true e =
        let is : false ≡ true = range.1 (grind (arith, nat_tests, signed_arith), grind (arith, nat_tests, signed_arith)) in absurd (cc)
    by false e = rw e refl
given_is (pos n) (Some moment) range value =
    let same : moment ≡ n = cc in
    let within = range.0 refl in
    let test : (nat_le first_moment n && nat_le n last_moment) ≡ true = grind (arith, nat_tests, signed_arith) in
    rw (test, same) refl
