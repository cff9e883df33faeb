-- Which month a day lies in, and which date a moment shows.
use Rattle.std.proofs.Common.{◌≡◌, ℕ, zero, suc, ◌+◌, ◌-◌, ◌*◌, ◌/◌, ◌%◌, ◌<◌, ◌≤◌, Bool, true, false, cond, refl, subst, arith, ℤ, pos, negsuc, ◌+ℤ◌, ◌-ℤ◌, ◌*ℤ◌, ◌≤ℤ◌, ◌<ℤ◌, nat_lt, inl, inr, w16, to_z, of_z, FitsSigned}
use Rattle.std.specs.Prelude.{int_le, unsigned_abs}
use Rattle.std.specs.List.{count_by, range_with_len}
use Rattle.std.proofs.lemmas.Bool.{cases_order}
use Rattle.std.proofs.lemmas.Int.{by_lt_z, to_z-of_z}
use Rattle.std.proofs.lemmas.List.Sums.{sum_by-cons}
use Rattle.std.proofs.lemmas.Bool.Decides.{nat_tests}
use Rattle.jiff_core.specs.Calendar.{days_from_civil, day_count, days_in_month, IsCivilDate}
use Rattle.jiff_core.proofs.SignedLemmas.{signed_arith}
use Rattle.jiff_core.proofs.MarchLemmas.{day_count-early}
use Rattle.jiff_core.proofs.CalendarLemmas.{days_from_civil-day_count, days_in_month_bounds, day_count-day, day_count-last_of_year, day_count-lt_year, day_count-next_month, day_count-next_year}
use Rattle.sts_fields.specs.declared.calendar.date_time.Civil.{Civil}
use Rattle.jiff_core.specs.declared.civil.datetime.DateTime.{DateTime}
use Rattle.jiff_core.specs.DateTime.{civil_nanos}
use Rattle.jiff_core.specs.Time.{time_seconds}
use Rattle.jiff_core.proofs.DateTimeLemmas.{civil_nanos-parts}
use Rattle.sts_fields.specs.declared.base.Base.{Base}
use Rattle.sts_fields.specs.declared.base.Base.TheVariants.{Y1993, Y2014, Y2035}
use Rattle.sts_fields.specs.Base.{base_date, year_of}
use Rattle.sts_fields.specs.Calendar.{IsCivil, IsWithinRanges, civil_at, first_day, month_at, month_number, new_year, time_of_day}
use borrow.Author.Differences.{up, down}

-- from a on p holds of k numbers, and of none of the later ones among the n
pub record IsThreshold (p : ℕ → Bool) (a n k : ℕ) : Type 0 where
  pub within : k ≤ n
  pub passed : (i : ℕ) → a ≤ i → i < a + k → p i ≡ true
  pub beyond : (i : ℕ) → a + k ≤ i → i < a + n → p i ≡ false

-- where p fails it fails from there on
abbrev FailsOn : (ℕ → Bool) → Type 0
FailsOn p = (i j : ℕ) → i ≤ j → p i ≡ false → p j ≡ false

count_next : (p : ℕ → Bool) (a n : ℕ) → count_by p (range_with_len a (suc n))
    ≡ cond (p a) 1 0 + count_by p (range_with_len (a + 1) n)
count_next p a n = sum_by-cons (λ (x : ℕ). cond (p x) 1 0) a (range_with_len (a + 1) n)

count_none : (p : ℕ → Bool) (a n : ℕ) → FailsOn p → p a ≡ false → count_by p (range_with_len a n)
    ≡ 0
count_none p a zero on none = refl
count_none p a (suc n) on none =
    let rest = count_none p (a + 1) n on (on a (a + 1) (omega arith) none) in
    rw (count_next p a n, none) (omega (arith, rest))

-- where what is left has its threshold, so has the whole
threshold_more : (p : ℕ → Bool) (a n rest : ℕ) (t : Bool) → FailsOn p → p a ≡ t
    → (t ≡ false → rest ≡ 0) → IsThreshold p (a + 1) n rest
    → IsThreshold p a (suc n) (cond t 1 0 + rest)
threshold_more p a n rest true on e none more =
    let within = more.within in
    let here : (i : ℕ) → a ≤ i → i < a + (1 + rest) → p i ≡ true =
    λ i low high. first_below p a i rest e low high more.passed in
    record { within = omega arith; passed = here; beyond = λ i low high. more.beyond i (omega arith) (omega arith) }
  where
    first_below : (q : ℕ → Bool) (b i k : ℕ) → q b ≡ true → b ≤ i → i < b + (1 + k)
        → ((j : ℕ) → b + 1 ≤ j → j < b + 1 + k → q j ≡ true) → q i ≡ true
    first_below q b i k first low high later = by (nat_lt b i) refl
      where
        by : (u : Bool) → nat_lt b i ≡ u → q i ≡ true
        by true above = later i (grind (arith, nat_tests)) (omega arith)
        by false same = let is : i ≡ b = grind (arith, nat_tests) in rw is first
threshold_more p a n rest false on e none more =
    let nothing = none refl in
    record { within = omega arith; passed = λ i low high. absurd (omega arith); beyond = λ i low high. on a i (omega arith) e }

count_threshold : (p : ℕ → Bool) (a n : ℕ) → FailsOn p
    → IsThreshold p a n (count_by p (range_with_len a n))
count_threshold p a zero on =
    record { within = omega arith; passed = λ i low high. absurd (omega arith); beyond = λ i low high. absurd (omega arith) }
count_threshold p a (suc n) on =
    rw (count_next p a n)
    (threshold_more p a n _ (p a) on refl
    (λ none. count_none p (a + 1) n on (on a (a + 1) (omega arith) none))
    (count_threshold p (a + 1) n on))

-- the days from 1 January of the year -10000 to the first of the nth month after January 1993
abbrev first_count : ℕ → ℕ
first_count n = day_count (pos (1993 + n / 12)) (n % 12 + 1) 1

-- how many days that month has
abbrev length_of_month : ℕ → ℕ
length_of_month n = days_in_month (pos (1993 + n / 12)) (n % 12 + 1)

first_day-count : (n : ℕ) → up (first_day n) + 4_371_953 ≡ down (first_day n) + first_count n
unfolding first_day
first_day-count n = days_from_civil-day_count (pos (1993 + n / 12)) (n % 12 + 1) 1

first_count-next : (n : ℕ) → first_count (n + 1) ≡ first_count n + length_of_month n
first_count-next n = by (nat_lt (n % 12) 11) refl
  where
    by : (t : Bool) → nat_lt (n % 12) 11 ≡ t → first_count (n + 1)
        ≡ first_count n + length_of_month n
    by true e =
        let year : (n + 1) / 12 ≡ n / 12 = grind (arith, nat_tests) in
        let month : (n + 1) % 12 ≡ n % 12 + 1 = grind (arith, nat_tests) in
        rw (year, month) (day_count-next_month (pos (1993 + n / 12)) (n % 12 + 1) (omega arith))
    by false e =
        let december : n % 12 ≡ 11 = grind (arith, nat_tests) in
        let year : (n + 1) / 12 ≡ n / 12 + 1 = omega arith in
        let january : (n + 1) % 12 ≡ 0 = omega arith in
        let y = pos (1993 + n / 12) in
        rw (year, january, december)
        (omega (
          arith,
          day_count-next_year y (pos (1993 + (n / 12 + 1)))
              (omega (arith, signed_arith)) (omega (arith, signed_arith)),
          day_count-last_of_year y,
          day_count-day y 12 1 31 (omega arith) (omega arith),
        ))

first_count-mono : (n k : ℕ) → first_count n ≤ first_count (k + n)
first_count-mono n zero = let same : 0 + n ≡ n = omega arith in rw same (omega arith)
first_count-mono n (suc k) =
    let next : suc k + n ≡ k + n + 1 = omega arith in
    rw next (omega (arith, first_count-mono n k, first_count-next (k + n)))

-- the months begin one after another
first_count-le : (n later : ℕ) → n ≤ later → first_count n ≤ first_count later
first_count-le n later h =
    let same : later - n + n ≡ later = omega arith in rw same at (first_count-mono n (later - n))

-- the month has begun by the day
abbrev has_begun : ℕ → ℕ → Bool
has_begun secs n = int_le (first_day n) (pos (secs / 86400))

has_begun-true : (secs n : ℕ) → has_begun secs n ≡ true → first_count n ≤ 4_371_953 + secs / 86400
has_begun-true secs n e = omega (arith, signed_arith, first_day-count n)

has_begun-false : (secs n : ℕ) → has_begun secs n ≡ false → 4_371_953 + secs / 86400 < first_count n
has_begun-false secs n e = omega (arith, signed_arith, first_day-count n)

begun_not : (secs n : ℕ) → 4_371_953 + secs / 86400 < first_count n → has_begun secs n ≡ false
begun_not secs n h = by (has_begun secs n) refl
  where
    by : (t : Bool) → has_begun secs n ≡ t → t ≡ false
    by true e = absurd (omega (arith, has_begun-true secs n e))
    by false e = refl

has_begun-on : (secs : ℕ) → FailsOn (has_begun secs)
has_begun-on secs i j h e =
    begun_not secs j (omega (arith, has_begun-false secs i e, first_count-le i j h))

month_at-threshold : (secs : ℕ) → IsThreshold (has_begun secs) 1 1283 (month_at secs)
unfolding month_at
month_at-threshold secs = count_threshold (has_begun secs) 1 1283 (has_begun-on secs)

-- the days from 1 January of the year -10000 to what a clock in UTC shows
pub civil-day : (secs : ℕ) (c : Civil) → IsCivil secs c → day_count (pos c.year) c.month c.day
    ≡ 4_371_953 + secs / 86400
civil-day secs c i =
    let seconds = i.seconds in
    let hour = i.hour in
    let minute = i.minute in
    let second = i.second in
    omega (arith, signed_arith, days_from_civil-day_count (pos c.year) c.month c.day)

first_of_month : (c : Civil) → IsCivilDate (pos c.year) c.month c.day → 1993 ≤ c.year
    → first_count (month_number c) ≡ day_count (pos c.year) c.month 1
first_of_month c date from =
    let year : 1993 + month_number c / 12 ≡ c.year = omega arith in
    let month : month_number c % 12 + 1 ≡ c.month = omega arith in
    rw (year, month) refl

-- a date lies in its month
in_month : (c : Civil) → IsCivilDate (pos c.year) c.month c.day → 1993 ≤ c.year
    → (first_count (month_number c) ≤ day_count (pos c.year) c.month c.day)
    × (day_count (pos c.year) c.month c.day < first_count (month_number c + 1))
in_month c date from =
    let year : 1993 + month_number c / 12 ≡ c.year = omega arith in
    let month : month_number c % 12 + 1 ≡ c.month = omega arith in
    let length : length_of_month (month_number c) ≡ days_in_month (pos c.year) c.month =
    rw (year, month) refl in
    let first = first_of_month c date from in
    let days = day_count-day (pos c.year) c.month c.day 1 date.2.0 (omega arith) in
    let next = first_count-next (month_number c) in
    (omega arith, omega arith)

-- a month is the one that holds the day
month_at-is : (secs n : ℕ) → n ≤ 1283 → first_count n ≤ 4_371_953 + secs / 86400
    → 4_371_953 + secs / 86400 < first_count (n + 1) → month_at secs ≡ n
month_at-is secs n top low high =
    elim (cases_order (month_at secs) n) [
      | inl same ↦ same
      | inr (inl lt) ↦
          absurd (omega (
            arith,
            has_begun-false secs n
                ((month_at-threshold secs).beyond n (omega arith) (omega arith)),
          ))
      | inr (inr gt) ↦
          absurd
          (omega (
            arith,
            has_begun-true secs (month_at secs)
                ((month_at-threshold secs).passed _ (omega arith) (omega arith)),
            first_count-le (n + 1)
                (month_at secs) (omega arith),
          ))
    ]

-- the month of a moment is that of the date which a clock shows
pub month_at-civil : (secs : ℕ) (c : Civil) → IsCivil secs c → 1993 ≤ c.year → c.year ≤ 2099
    → month_at secs ≡ month_number c
month_at-civil secs c i from to =
    let holds = in_month c i.date from in
    let day = civil-day secs c i in
    let month = i.date.1 in
    month_at-is secs (month_number c) (omega arith) (omega arith) (omega arith)

-- no month goes back
pub month_at-mono : (s t : ℕ) → s ≤ t → month_at s ≤ month_at t
month_at-mono s t h =
    elim (cases_order (month_at s) (month_at t)) [
      | inl same ↦ omega arith
      | inr (inl lt) ↦ omega arith
      | inr (inr gt) ↦
          absurd
          (let before = month_at-threshold s in
          let after = month_at-threshold t in
          let within = before.within in
          omega (
            arith,
            has_begun-true s (month_at s) (before.passed _ (omega arith) (omega arith)),
            has_begun-false t (month_at s) (after.beyond _ (omega arith) (omega arith)),
          ))
    ]

-- the first days of the first year, of its successors with a base date, and of the year after the
-- last
pub count_1993 : day_count (pos 1993) 1 1 ≡ 4_380_354
count_1993 = day_count-early (pos 1993) 11992 1 1 refl (omega arith) (omega arith) (omega arith)

count_2014 : day_count (pos 2014) 1 1 ≡ 4_388_024
count_2014 = day_count-early (pos 2014) 12013 1 1 refl (omega arith) (omega arith) (omega arith)

count_2035 : day_count (pos 2035) 1 1 ≡ 4_395_694
count_2035 = day_count-early (pos 2035) 12034 1 1 refl (omega arith) (omega arith) (omega arith)

count_2100 : day_count (pos 2100) 1 1 ≡ 4_419_435
count_2100 = day_count-early (pos 2100) 12099 1 1 refl (omega arith) (omega arith) (omega arith)

new_year-is : (year day : ℕ) → day_count (pos year) 1 1 ≡ 4_371_953 + day → 1 ≤ year → year ≤ 9999
    → IsCivil (day * 86400) (new_year year)
new_year-is year day e from to =
    record {
      date = (
        (omega (arith, signed_arith), omega (arith, signed_arith)),
        (omega arith, omega arith),
        (omega arith, omega arith),
      );
      hour = omega arith;
      minute = omega arith;
      second = omega arith;
      seconds = omega (arith, signed_arith, days_from_civil-day_count (pos year) 1 1);
    }

-- the moments from 1993 to 2099 have dates of those years
pub civil-years : (secs : ℕ) (c : Civil) → 725846400 ≤ secs → secs ≤ 4102444799 → IsCivil secs c
    → (1993 ≤ c.year) × (c.year ≤ 2099)
civil-years secs c from to i = (by_low (nat_lt c.year 1993) refl, by_high (nat_lt 2099 c.year) refl)
  where
    by_low : (t : Bool) → nat_lt c.year 1993 ≡ t → 1993 ≤ c.year
    by_low true e =
        let lt : pos c.year <ℤ pos 1993 = grind (arith, nat_tests, signed_arith) in
        absurd (omega (
          arith,
          civil-day secs c i,
          count_1993,
          day_count-lt_year
              (pos c.year) c.month c.day (pos 1993) 1 1 i.date (omega arith) lt,
        ))
    by_low false e = grind (arith, nat_tests)

    by_high : (t : Bool) → nat_lt 2099 c.year ≡ t → c.year ≤ 2099
    by_high true e =
        let lt : pos 2099 <ℤ pos c.year = grind (arith, nat_tests, signed_arith) in
        let last : IsCivilDate (pos 2099) 12 31 = (
          (omega (arith, signed_arith), omega (arith, signed_arith)),
          (omega arith, omega arith),
          (omega arith, omega arith),
        ) in
        let date = i.date in
        absurd (omega (
          arith,
          civil-day secs c i,
          count_2100,
          day_count-last_of_year (pos 2099),
          day_count-next_year (pos 2099) (pos 2100) (omega (arith, signed_arith))
              (omega (arith, signed_arith)),
          day_count-lt_year (pos 2099) 12 31
              (pos c.year) c.month c.day last date.2.0 lt,
        ))
    by_high false e = grind (arith, nat_tests)

-- a date and a time of day by their parts
same_civil : (c e : Civil) → c.year ≡ e.year → c.month ≡ e.month → c.day ≡ e.day → c.hour ≡ e.hour
    → c.minute ≡ e.minute → c.second ≡ e.second → c ≡ e
same_civil c e year month day hour minute second =
    λ i. record { year = year i; month = month i; day = day i; hour = hour i; minute = minute i; second = second i }

-- the day of the month on which a day lies
day_of_month : (secs : ℕ) → ℕ
day_of_month secs = unsigned_abs (pos (secs / 86400) -ℤ first_day (month_at secs)) + 1

day_of_month-count : (secs : ℕ) → first_count (month_at secs) ≤ 4_371_953 + secs / 86400
    → day_of_month secs + first_count (month_at secs) ≡ 4_371_954 + secs / 86400
unfolding day_of_month
day_of_month-count secs h =
    let days = 4_371_953 + secs / 86400 - first_count (month_at secs) in
    let is : pos (secs / 86400) -ℤ first_day (month_at secs) ≡ pos days =
    omega (arith, signed_arith, first_day-count (month_at secs)) in
    rw is (omega arith)

-- the month that `month_at` gives has begun
begun : (secs : ℕ) → 725846400 ≤ secs → first_count (month_at secs) ≤ 4_371_953 + secs / 86400
begun secs from =
    elim (cases_order 0 (month_at secs)) [
      | inl first ↦ rw (← first) (omega (arith, count_1993))
      | inr (inl later) ↦ has_begun-true secs (month_at secs) ((month_at-threshold secs).passed _ (omega arith) (omega arith))
      | inr (inr never) ↦ absurd (omega arith)
    ]

-- and the one after it has not
next_to_begin : (secs : ℕ) → secs ≤ 4102444799
    → 4_371_953 + secs / 86400 < first_count (month_at secs + 1)
next_to_begin secs to =
    let within = (month_at-threshold secs).within in
    elim (cases_order (month_at secs) 1283) [
      | inl last ↦ rw last (omega (arith, count_2100))
      | inr (inl before) ↦ has_begun-false secs (month_at secs + 1) ((month_at-threshold secs).beyond _ (omega arith) (omega arith))
      | inr (inr never) ↦ absurd (omega arith)
    ]

-- a moment has the date and time that `civil_at` computes
pub civil_at-is : (secs : ℕ) → 725846400 ≤ secs → secs ≤ 4102444799 → IsCivil secs (civil_at secs)
unfolding civil_at day_of_month
civil_at-is secs from to =
    let n = month_at secs in
    let threshold = month_at-threshold secs in
    let within : n ≤ 1283 = threshold.within in
    let low = begun secs from in
    let high = next_to_begin secs to in
    let day = day_of_month-count secs low in
    let next = first_count-next n in
    let days = day_count-day (pos (1993 + n / 12)) (n % 12 + 1) (day_of_month secs) 1 (omega arith) (omega arith) in
    record {
      date = (
        (omega (arith, signed_arith), omega (arith, signed_arith)),
        (omega arith, omega arith),
        (omega arith, omega arith),
      );
      hour = omega arith;
      minute = omega arith;
      second = omega arith;
      seconds = omega (
        arith,
        signed_arith,
        days_from_civil-day_count (pos (1993 + n / 12))
            (n % 12 + 1) (day_of_month secs),
      );
    }

-- and no other
pub civil_at-only : (secs : ℕ) (c : Civil) → 725846400 ≤ secs → secs ≤ 4102444799 → IsCivil secs c
    → c ≡ civil_at secs
unfolding civil_at day_of_month
civil_at-only secs c from to i =
    let date = i.date in
    let hour = i.hour in
    let minute = i.minute in
    let second = i.second in
    let seconds = i.seconds in
    let years = civil-years secs c from to i in
    let n = month_at secs in
    let is : n ≡ month_number c = month_at-civil secs c i years.0 years.1 in
    let year : c.year ≡ 1993 + n / 12 = omega arith in
    let month : c.month ≡ n % 12 + 1 = omega arith in
    let first : first_count n ≡ day_count (pos c.year) c.month 1 =
    rw is (first_of_month c date years.0) in
    let days = day_count-day (pos c.year) c.month c.day 1 date.2.0 (omega arith) in
    let day = day_of_month-count secs (begun secs from) in
    let time : time_of_day c ≡ secs % 86400 = omega (arith, signed_arith) in
    same_civil c (civil_at secs) year month (omega (arith, civil-day secs c i)) (omega arith)
    (omega arith) (omega arith)

-- a base date is midnight on the first of January of its year
pub base_date-civil : (base : Base) → IsCivil (base_date base) (new_year (year_of base))
base_date-civil Y1993 = new_year-is 1993 8401 count_1993 (omega arith) (omega arith)
base_date-civil Y2014 = new_year-is 2014 16071 count_2014 (omega arith) (omega arith)
base_date-civil Y2035 = new_year-is 2035 23741 count_2035 (omega arith) (omega arith)

-- each part of a date and time from 1993 to 2099 keeps to its range
pub civil-ranges : (secs : ℕ) (c : Civil) → 725846400 ≤ secs → secs ≤ 4102444799 → IsCivil secs c
    → IsWithinRanges c
civil-ranges secs c from to i =
    let date = i.date in
    let length = days_in_month_bounds (pos c.year) c.month in
    record { year = civil-years secs c from to i; month = date.1; day = (date.2.0, omega arith); hour = i.hour; minute = i.minute; second = i.second }

-- each date and time of 1993 to 2099 is that of a moment
pub moment_of_civil : (c : Civil) → IsCivilDate (pos c.year) c.month c.day → IsWithinRanges c
    → (secs : ℕ) × ((725846400 ≤ secs) × (secs ≤ 4102444799)) × IsCivil secs c
moment_of_civil c date r =
    let year = r.year in
    let month = r.month in
    let hour = r.hour in
    let minute = r.minute in
    let second = r.second in
    let holds = in_month c date year.0 in
    let first : day_count (pos 1993) 1 1 ≤ first_count (month_number c) =
    first_count-le 0 (month_number c) (omega arith) in
    let last : first_count (month_number c + 1) ≤ day_count (pos 2100) 1 1 =
    first_count-le (month_number c + 1) 1284 (omega arith) in
    let days = day_count (pos c.year) c.month c.day - 4_371_953 in (
      days * 86400 + time_of_day c,
      (omega (arith, count_1993), omega (arith, count_2100)),
      record {
        date = date;
        hour = hour;
        minute = minute;
        second = second;
        seconds = omega (arith, signed_arith, count_1993, days_from_civil-day_count (pos c.year) c.month c.day);
      },
    )

-- the day and the time of what `jiff` shows at these Unix seconds
shown_day : (dt : DateTime) (secs : ℕ) → civil_nanos dt ≡ pos secs *ℤ pos 1_000_000_000
    → (day_count dt.date.year dt.date.month dt.date.day
    ≡ 4_371_953 + secs / 86400) × (time_seconds dt.time ≡ secs % 86400)
shown_day dt secs e =
    let hour = dt.time.hour_in in
    let minute = dt.time.minute_in in
    let second = dt.time.second_in in
    let subsec = dt.time.subsec_in in
    let day = days_from_civil-day_count dt.date.year dt.date.month dt.date.day in
    let parts = civil_nanos-parts dt in
    (omega (arith, signed_arith), omega (arith, signed_arith))

not_negative : (z : ℤ) → pos 0 ≤ℤ z → z ≡ pos (unsigned_abs z)
not_negative (pos n) h = refl
not_negative (negsuc n) h = absurd (omega (arith, signed_arith))

-- the year that `jiff` shows is not negative, from 1993 on
pub shown_year : (dt : DateTime) (secs : ℕ) → 725846400 ≤ secs → civil_nanos dt
    ≡ pos secs *ℤ pos 1_000_000_000 → dt.date.year ≡ pos (unsigned_abs dt.date.year)
shown_year dt secs from e =
    by_lt_z dt.date.year (pos 1993)
    (λ lt. absurd (omega (
      arith,
      count_1993,
      (shown_day dt secs e).0,
      day_count-lt_year dt.date.year dt.date.month dt.date.day (pos 1993) 1 1
          (dt.date.year_in, dt.date.month_in, dt.date.day_in) (omega arith) lt,
    )))
    (λ ge. not_negative dt.date.year (omega (arith, signed_arith)))

-- that is the date and time in UTC
pub shown_civil : (dt : DateTime) (secs : ℕ) → 725846400 ≤ secs → civil_nanos dt ≡ pos secs *ℤ pos 1_000_000_000
    → IsCivil secs (record {
      year = unsigned_abs dt.date.year;
      month = dt.date.month;
      day = dt.date.day;
      hour = dt.time.hour;
      minute = dt.time.minute;
      second = dt.time.second;
    })
shown_civil dt secs from e =
    let year = shown_year dt secs from e in
    let shown = shown_day dt secs e in
    let date : IsCivilDate dt.date.year dt.date.month dt.date.day =
    (dt.date.year_in, dt.date.month_in, dt.date.day_in) in
    let days = days_from_civil-day_count dt.date.year dt.date.month dt.date.day in
    let seconds : days_from_civil dt.date.year dt.date.month dt.date.day *ℤ pos 86400 +ℤ pos (time_seconds dt.time) ≡ pos secs = omega (arith, signed_arith) in
    record {
      date = subst (λ (y : ℤ). IsCivilDate y dt.date.month dt.date.day) year date;
      hour = dt.time.hour_in;
      minute = dt.time.minute_in;
      second = dt.time.second_in;
      seconds = subst (λ (y : ℤ). days_from_civil y dt.date.month dt.date.day *ℤ pos 86400 +ℤ pos
          (time_seconds dt.time) ≡ pos secs) year seconds;
    }

-- its year is a number of sixteen bits
pub shown_year-cast : (dt : DateTime) → to_z w16 (of_z w16 dt.date.year) ≡ dt.date.year
shown_year-cast dt =
    let range = dt.date.year_in in
    let fits : FitsSigned w16 dt.date.year = omega (arith, signed_arith) in
    to_z-of_z w16 dt.date.year fits
