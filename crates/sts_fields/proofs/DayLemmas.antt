-- Days, their dates and their texts.
use Rattle.std.proofs.Common.{◌≡◌, ◌∙◌, ◌≢◌, ℕ, suc, ◌+◌, ◌-◌, ◌*◌, ◌/◌, ◌%◌, ◌<◌, ◌≤◌, [], ◌∷◌, List, length, get_or, refl, sym, ap, subst, arith, ℤ, pos, ◌+ℤ◌, ◌-ℤ◌}
use Rattle.std.specs.Int.{IsInRange}
use Rattle.jiff_core.specs.Calendar.{days_from_civil, day_count, IsCivilDate, IsDate}
use Rattle.jiff_core.specs.Date.{epoch_day}
use Rattle.jiff_core.specs.declared.civil.date.Date.{Date}
use Rattle.jiff_core.proofs.SignedLemmas.{signed_arith}
use Rattle.jiff_core.proofs.CalendarLemmas.{days_from_civil-day_count, days_in_month_bounds}
use Rattle.jiff_core.proofs.DateLemmas.{epoch_day_injective}
use Rattle.sts_fields.specs.declared.calendar.date_time.Civil.{Civil}
use Rattle.sts_fields.specs.Calendar.{IsCivil, civil_at, day_number}
use Rattle.sts_fields.specs.Day.{HasDate, IsDay, IsDayText, iso_date, day_at, two_digits}
use Rattle.sts_fields.specs.Moment.{IsMoment, first_moment}
use Rattle.sts_fields.specs.Text.{Text}
use Rattle.sts_fields.proofs.CalendarLemmas.{civil-day, civil-years, civil_at-is, count_1993, moment_of_civil}

-- 1 January 1993, in days since 1970
pub first_day-is : days_from_civil (pos 1993) 1 1 ≡ pos 8401
first_day-is = omega (arith, signed_arith, count_1993, days_from_civil-day_count (pos 1993) 1 1)

-- the day of a moment, by its whole days since 1970
pub day_at-is : (secs : ℕ) → IsMoment secs → day_at secs ≡ secs / 86400 - 8401
unfolding day_at
day_at-is secs range =
    let c = civil_at secs in
    let count = civil-day secs c (civil_at-is secs range.0 range.1) in
    let days : day_number c -ℤ days_from_civil (pos 1993) 1 1 ≡ pos (secs / 86400 - 8401) =
    omega (
      arith,
      signed_arith,
      first_day-is,
      days_from_civil-day_count (pos c.year) c.month c.day,
    ) in
    rw days refl

-- a date of a day, by the days since 1 January of the year -10000
pub has_date-count : (day year month date : ℕ) → HasDate day year month date
    → day_count (pos year) month date ≡ 4_380_354 + day
has_date-count day year month date h =
    let days = h.days in
    omega (arith, signed_arith, first_day-is, days_from_civil-day_count (pos year) month date)

-- the other way round: a date at that many days is a date of the day
pub count-has_date : (day year month date : ℕ) → IsCivilDate (pos year) month date
    → day_count (pos year) month date ≡ 4_380_354 + day → HasDate day year month date
count-has_date day year month date there count =
    record { there = there; days = omega (arith, signed_arith, first_day-is, days_from_civil-day_count (pos year) month date) }

-- a moment lies on one of the days up to the end of 2099
pub range : (secs : ℕ) → IsMoment secs → IsDay (day_at secs)
range secs m = rw (day_at-is secs m) (omega arith)

-- a moment lies between midnight of its day and the next midnight
pub whole : (secs : ℕ) → IsMoment secs → (first_moment + day_at secs * 86400 ≤ secs)
    × (secs < first_moment + (day_at secs + 1) * 86400)
whole secs m = rw (day_at-is secs m) (omega arith, omega arith)

-- a later moment lies on no earlier day
pub never_back : (s t : ℕ) → IsMoment s → IsMoment t → s ≤ t → day_at s ≤ day_at t
never_back s t m k h = rw (day_at-is s m, day_at-is t k) (omega arith)

-- midnight of a day
abbrev midnight : ℕ → ℕ
midnight day = 725846400 + day * 86400

midnight-is : (day : ℕ) → IsDay day → IsMoment (midnight day)
midnight-is day h = (omega arith, omega arith)

-- each day has a moment: its midnight
pub each_day : (day : ℕ) → IsDay day → (secs : ℕ) × IsMoment secs × (day_at secs ≡ day)
each_day day h =
    let m = midnight-is day h in
    (midnight day, m, day_at-is (midnight day) m ∙ omega arith)

-- the date that a clock shows is a date of the moment's day
pub shown : (secs : ℕ) (c : Civil) → IsMoment secs → IsCivil secs c
    → HasDate (day_at secs) c.year c.month c.day
shown secs c m is =
    let count = civil-day secs c is in
    count-has_date (day_at secs) c.year c.month c.day is.date
    (rw (day_at-is secs m) (omega (arith, count)))

-- midnight of a date
abbrev date_only : ℕ → ℕ → ℕ → Civil
date_only year month date = record { year = year; month = month; day = date; hour = 0; minute = 0; second = 0 }

-- each date of 1993 to 2099 is that of a day
pub each_date : (year month date : ℕ) → IsCivilDate (pos year) month date → IsInRange 1993 2099 year
    → (day : ℕ) × IsDay day × HasDate day year month date
each_date year month date there years =
    let c = date_only year month date in
    let length = days_in_month_bounds (pos year) month in
    let found = moment_of_civil c there (record {
      year = years;
      month = there.1;
      day = (there.2.0, omega arith);
      hour = omega arith;
      minute = omega arith;
      second = omega arith;
    }) in
    (day_at found.0, range found.0 found.1, shown found.0 c found.1 found.2)

-- a day's date has a year from 1993 to 2099
pub years : (day year month date : ℕ) → IsDay day → HasDate day year month date
    → IsInRange 1993 2099 year
years day year month date h is =
    let c = date_only year month date in
    let m = midnight-is day h in
    let days = is.days in
    let civil : IsCivil (midnight day) c = record {
      date = is.there;
      hour = omega arith;
      minute = omega arith;
      second = omega arith;
      seconds = omega (arith, signed_arith, first_day-is);
    } in
    civil-years (midnight day) c m.0 m.1 civil

-- the date that the calendar has
abbrev calendar_date : (year month date : ℕ) → IsCivilDate (pos year) month date → Date
calendar_date year month date there = record { year = pos year; month = month; day = date; year_in = there.0; month_in = there.1; day_in = there.2 }

-- a day has one date
pub one_date : (day y m d year month date : ℕ) → HasDate day y m d → HasDate day year month date
    → (y ≡ year) × (m ≡ month) × (d ≡ date)
one_date day y m d year month date h k =
    let same = epoch_day_injective (calendar_date y m d h.there) (calendar_date year month date k.there) (h.days ∙ sym k.days) in
    (omega (arith, signed_arith, same.0), same.1, same.2)

-- a date is that of one day
pub one_day : (day other year month date : ℕ) → HasDate day year month date
    → HasDate other year month date → day ≡ other
one_day day other year month date h k =
    omega (
      arith,
      has_date-count day year month date h,
      has_date-count other year month date k,
    )

-- each day has a text
pub each_text : (day : ℕ) → IsDay day → (text : Text) × IsDayText text day
each_text day h =
    let m = midnight-is day h in
    let c = civil_at (midnight day) in
    let at : day_at (midnight day) ≡ day = day_at-is (midnight day) m ∙ omega arith in
    let dated : HasDate day c.year c.month c.day =
    rw at at (shown (midnight day) c m (civil_at-is (midnight day) m.0 m.1)) in
    (iso_date c.year c.month c.day, record { range = h; year = c.year; month = c.month; date = c.day; dated = dated; written = refl })

-- a day has one text
pub one_text : (day : ℕ) (text other : Text) → IsDayText text day → IsDayText other day
    → text ≡ other
one_text day text other h k =
    let same = one_date day h.year h.month h.date k.year k.month k.date h.dated k.dated in
    h.written ∙ rw (same.0, same.1, same.2) (sym k.written)

-- two digits are those of one number
pub two_digits-one : (n k : ℕ) → n < 100 → k < 100 → two_digits n ≡ two_digits k → n ≡ k
two_digits-one n k few less same =
    let tens : 48 + n / 10 ≡ 48 + k / 10 = ap (λ ds. get_or ds 0 0) same in
    let ones : 48 + n % 10 ≡ 48 + k % 10 = ap (λ ds. get_or ds 1 0) same in
    omega arith

-- the numbers of a date have two digits each
pub record HasDigits (text : List ℕ) (year month date : ℕ) : Type 0 where
  pub ten : length text ≡ 10
  pub century : get_or text 0 0 ∷ get_or text 1 0 ∷ [] ≡ two_digits (year / 100)
  pub year_in_century : get_or text 2 0 ∷ get_or text 3 0 ∷ [] ≡ two_digits (year % 100)
  pub left : get_or text 4 0 ≡ 45
  pub month_digits : get_or text 5 0 ∷ get_or text 6 0 ∷ [] ≡ two_digits month
  pub right : get_or text 7 0 ≡ 45
  pub date_digits : get_or text 8 0 ∷ get_or text 9 0 ∷ [] ≡ two_digits date

-- the text of a date has its digits and its hyphens at their places
pub digits-of : (text : List ℕ) (year month date : ℕ) → text ≡ iso_date year month date
    → HasDigits text year month date
unfolding iso_date
digits-of text year month date e = rw e (record {
  ten = refl;
  century = refl;
  year_in_century = refl;
  left = refl;
  month_digits = refl;
  right = refl;
  date_digits = refl;
})

-- ten bytes are these
ten-bytes : (text : List ℕ) → length text ≡ 10 → text ≡ get_or text 0 0 ∷ get_or text 1 0 ∷ get_or text 2 0 ∷ get_or text 3 0
    ∷ get_or text 4 0 ∷ get_or text 5 0 ∷ get_or text 6 0 ∷ get_or text 7 0 ∷ get_or text 8 0 ∷ get_or text 9 0 ∷ []
ten-bytes (a ∷ b ∷ c ∷ d ∷ e ∷ f ∷ g ∷ h ∷ i ∷ j ∷ []) ten = refl
ten-bytes (a ∷ b ∷ c ∷ d ∷ e ∷ f ∷ g ∷ h ∷ i ∷ j ∷ k ∷ more) ten = absurd (omega (arith, ten))
ten-bytes (a ∷ b ∷ c ∷ d ∷ e ∷ f ∷ g ∷ h ∷ i ∷ []) ten = absurd (omega (arith, ten))
ten-bytes (a ∷ b ∷ c ∷ d ∷ e ∷ f ∷ g ∷ h ∷ []) ten = absurd (omega (arith, ten))
ten-bytes (a ∷ b ∷ c ∷ d ∷ e ∷ f ∷ g ∷ []) ten = absurd (omega (arith, ten))
ten-bytes (a ∷ b ∷ c ∷ d ∷ e ∷ f ∷ []) ten = absurd (omega (arith, ten))
ten-bytes (a ∷ b ∷ c ∷ d ∷ e ∷ []) ten = absurd (omega (arith, ten))
ten-bytes (a ∷ b ∷ c ∷ d ∷ []) ten = absurd (omega (arith, ten))
ten-bytes (a ∷ b ∷ c ∷ []) ten = absurd (omega (arith, ten))
ten-bytes (a ∷ b ∷ []) ten = absurd (omega (arith, ten))
ten-bytes (a ∷ []) ten = absurd (omega (arith, ten))
ten-bytes [] ten = absurd (omega (arith, ten))

-- bytes with the digits of a date are its text
pub of-digits : (text : List ℕ) (year month date : ℕ) → HasDigits text year month date
    → text ≡ iso_date year month date
unfolding iso_date
of-digits text year month date h =
    let first : (place : ℕ) (n : ℕ) → get_or text place 0 ∷ get_or text (suc place) 0 ∷ [] ≡ two_digits n → get_or text place 0 ≡ 48 + n / 10 =
    λ place n e. ap (λ ds. get_or ds 0 0) e in
    let second : (place : ℕ) (n : ℕ) → get_or text place 0 ∷ get_or text (suc place) 0 ∷ [] ≡ two_digits n → get_or text (suc place) 0 ≡ 48 + n % 10 =
    λ place n e. ap (λ ds. get_or ds 1 0) e in
    ten-bytes text h.ten ∙ rw (
      first 0 _ h.century,
      second 0 _ h.century,
      first 2 _ h.year_in_century,
      second 2 _ h.year_in_century,
      h.left,
      first 5 _ h.month_digits,
      second 5 _ h.month_digits,
      h.right,
      first 8 _ h.date_digits,
      second 8 _ h.date_digits,
    ) refl

-- the numbers of a date that the calendar has are below a hundred, and the year below a hundred
-- centuries
pub record HasBounds (year month date : ℕ) : Type 0 where
  pub few_centuries : year / 100 < 100
  pub few_years : year % 100 < 100
  pub few_months : month < 100
  pub few_days : date < 100

-- a date that the calendar has keeps to those bounds
pub bounds : (year month date : ℕ) → IsCivilDate (pos year) month date → HasBounds year month date
bounds year month date there =
    let length = days_in_month_bounds (pos year) month in
    let last : year ≤ 9999 = omega (arith, signed_arith, there.0) in
    record { few_centuries = omega arith; few_years = omega arith; few_months = omega (arith, there.1); few_days = omega (arith, there.2) }

-- a text is that of one date
pub iso_date-one : (y m d year month date : ℕ) → IsCivilDate (pos y) m d
    → IsCivilDate (pos year) month date → iso_date y m d ≡ iso_date year month date
    → (y ≡ year) × (m ≡ month) × (d ≡ date)
iso_date-one y m d year month date there here same =
    let text = iso_date y m d in
    let a = digits-of text y m d refl in
    let b = digits-of text year month date same in
    let few = bounds y m d there in
    let less = bounds year month date here in
    let century = two_digits-one (y / 100) (year / 100) few.few_centuries less.few_centuries (sym a.century ∙ b.century) in
    let in_century = two_digits-one (y % 100) (year % 100) few.few_years less.few_years (sym a.year_in_century ∙ b.year_in_century) in (
      omega (arith, century, in_century),
      two_digits-one m month few.few_months less.few_months (sym a.month_digits ∙ b.month_digits),
      two_digits-one d date few.few_days less.few_days (sym a.date_digits ∙ b.date_digits),
    )

-- a text is that of one day
pub one_read : (day other : ℕ) (text : Text) → IsDayText text day → IsDayText text other
    → day ≡ other
one_read day other text h k =
    let same = iso_date-one h.year h.month h.date k.year k.month k.date h.dated.there k.dated.there (sym h.written ∙ k.written) in
    let dated : HasDate other h.year h.month h.date = rw (same.0, same.1, same.2) k.dated in
    one_day day other h.year h.month h.date h.dated dated

-- ten bytes are the text of the date whose numbers their digits are
pub date-read : (text : List ℕ) (p q month date : ℕ) → length text ≡ 10 → get_or text 4 0 ≡ 45
    → get_or text 7 0 ≡ 45 → p < 100 → q < 100
    → get_or text 0 0 ∷ get_or text 1 0 ∷ [] ≡ two_digits p
    → get_or text 2 0 ∷ get_or text 3 0 ∷ [] ≡ two_digits q
    → get_or text 5 0 ∷ get_or text 6 0 ∷ [] ≡ two_digits month
    → get_or text 8 0 ∷ get_or text 9 0 ∷ [] ≡ two_digits date
    → text ≡ iso_date (p * 100 + q) month date
date-read text p q month date ten left right few less century year months days =
    let high : (p * 100 + q) / 100 ≡ p = omega arith in
    let low : (p * 100 + q) % 100 ≡ q = omega arith in
    of-digits text (p * 100 + q) month date
    (record { ten = ten; century = rw high century; year_in_century = rw low year; left = left; month_digits = months; right = right; date_digits = days })

-- the calendar has the date of the numbers that the digits of a date's text are
pub calendar-has : (text : List ℕ) (p q m d year month date : ℕ) → IsCivilDate (pos year) month date
    → text ≡ iso_date year month date → p < 100 → q < 100 → m < 100 → d < 100
    → get_or text 0 0 ∷ get_or text 1 0 ∷ [] ≡ two_digits p
    → get_or text 2 0 ∷ get_or text 3 0 ∷ [] ≡ two_digits q
    → get_or text 5 0 ∷ get_or text 6 0 ∷ [] ≡ two_digits m
    → get_or text 8 0 ∷ get_or text 9 0 ∷ [] ≡ two_digits d
    → IsDate (pos (p * 100 + q)) (pos m) (pos d)
calendar-has text p q m d year month date there e p_few q_few m_few d_few century years months days =
    let parts = digits-of text year month date e in
    let few = bounds year month date there in
    let high = two_digits-one p (year / 100) p_few few.few_centuries (sym century ∙ parts.century) in
    let low = two_digits-one q (year % 100) q_few few.few_years (sym years ∙ parts.year_in_century) in
    let is : p * 100 + q ≡ year = omega (arith, high, low) in
    let in_year = two_digits-one m month m_few few.few_months (sym months ∙ parts.month_digits) in
    let in_month = two_digits-one d date d_few few.few_days (sym days ∙ parts.date_digits) in
    let from = there.1 in
    let within = there.2 in
    rw (is, in_year, in_month) (there.0, (omega (arith, signed_arith), omega (arith, signed_arith)), (omega (arith, signed_arith), omega (arith, signed_arith)))

-- the text of a date is that of its day
pub day-read : (text : List ℕ) (d : Date) (day : ℕ)
    → (year : ℕ) × (d.year ≡ pos year) × (text ≡ iso_date year d.month d.day) → IsDay day
    → epoch_day d ≡ pos (8401 + day) → IsDayText text day
day-read text d day told is days =
    let year = told.1 in
    record {
      range = is;
      year = told.0;
      month = d.month;
      date = d.day;
      dated = record {
        there = subst (λ (y : ℤ). IsCivilDate y d.month d.day) year (d.year_in, d.month_in, d.day_in);
        days = subst (λ (y : ℤ). days_from_civil y d.month d.day ≡ days_from_civil (pos 1993) 1 1 +ℤ pos day) year (days ∙ rw first_day-is refl);
      };
      written = told.2;
    }

-- and of no other
pub no-day : (text : List ℕ) (d : Date)
    → (year : ℕ) × (d.year ≡ pos year) × (text ≡ iso_date year d.month d.day)
    → ((day : ℕ) → IsDay day → epoch_day d ≢ pos (8401 + day)) → (day : ℕ) → ¬ IsDayText text day
no-day text d told none day h =
    let there : IsCivilDate (pos told.0) d.month d.day = subst (λ (y : ℤ). IsCivilDate y d.month d.day) told.1 (d.year_in, d.month_in, d.day_in) in
    let same = iso_date-one told.0 d.month d.day h.year h.month h.date there h.dated.there (sym told.2 ∙ h.written) in
    let days : days_from_civil (pos told.0) d.month d.day ≡ pos (8401 + day) = rw (same.0, same.1, same.2) (h.dated.days ∙ rw first_day-is refl) in
    none day h.range (subst (λ (y : ℤ). days_from_civil y d.month d.day ≡ pos (8401 + day)) (sym told.1) days)

-- the same of numbers that are equal to these
pub is_date-as : (y m d : ℤ) (year month date : ℕ) → y ≡ pos year → m ≡ pos month → d ≡ pos date
    → IsDate (pos year) (pos month) (pos date) → IsDate y m d
is_date-as y m d year month date in_year in_month on has = rw (in_year, in_month, on) has
