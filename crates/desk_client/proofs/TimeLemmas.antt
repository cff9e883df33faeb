-- The times that papers show, read and written.
use Rattle.std.proofs.Common.{◌≡◌, ◌∙◌, ℕ, ℤ, pos, ◌+◌, ◌*◌, ◌%◌, ◌/◌, ◌<◌, ◌≤◌, List, ◌∷◌, ◌++◌, drop, length, take, codes, Option, Some, None, refl, ap, sym, subst, arith}
use Rattle.std.specs.Prelude.{◌↔◌, ◌≤ℤ◌, IfSome, IsSome}
use Rattle.std.proofs.lemmas.Int.{ints}
use Rattle.std.proofs.lemmas.List.{take-append-drop}
use Rattle.papers.specs.Text.{time_text}
use Rattle.sts_fields.specs.Calendar.{IsCivil, IsWithinRanges, civil_at}
use Rattle.sts_fields.specs.Day.{HasDate, IsDay, IsDayText, day_at, iso_date, two_digits}
use Rattle.sts_fields.specs.Moment.{IsMoment, first_moment, last_moment}
use Rattle.sts_fields.specs.declared.calendar.date_time.Civil.{Civil}
use Rattle.records.specs.Front.{IsFound}
use Rattle.desk_client.specs.Text.{LacksStop}
use Rattle.desk_client.specs.Time.{clock_after}
use Rattle.desk_client.proofs.ColumnLemmas.{same_start}
use Rattle.desk_client.proofs.PlainLemmas.{digit, plain_append}

-- an hour, a minute and a second, as papers show them
abbrev shown_as : ℕ → ℕ → ℕ → List ℕ
shown_as hour minute second = codes "T" ++ two_digits hour ++ 58 ∷ two_digits minute ++ 58 ∷ two_digits second ++ codes "Z"

-- a date, and then the time of day
pub time-split : (m : ℕ) → time_text m ≡ iso_date (civil_at m).year (civil_at m).month (civil_at m).day ++ clock_after (m % 86400)
unfolding time_text civil_at iso_date
time-split m =
    let c = civil_at m in
    let hour : m / 3600 % 24 ≡ m % 86400 / 3600 = omega arith in
    let minute : m / 60 % 60 ≡ m % 86400 / 60 % 60 = omega arith in
    let second : m % 60 ≡ m % 86400 % 60 = omega arith in
    ap (λ (h : ℕ). iso_date c.year c.month c.day ++ shown_as h (m / 60 % 60) (m % 60)) hour
    ∙ ap (λ (n : ℕ). iso_date c.year c.month c.day ++ shown_as (m % 86400 / 3600) n (m % 60)) minute
    ∙ ap (λ (s : ℕ). iso_date c.year c.month c.day ++ shown_as (m % 86400 / 3600) (m % 86400 / 60 % 60) s) second

date-length : (year month day : ℕ) → length (iso_date year month day) ≡ 10
unfolding iso_date
date-length year month day = refl

-- it has twenty bytes
pub time-length : (m : ℕ) → length (time_text m) ≡ 20
unfolding iso_date
time-length m = ap length (time-split m)

module _ (each_moment : (secs : ℕ) → IsMoment secs → IsCivil secs (civil_at secs))
    (range : (secs : ℕ) → IsMoment secs → IsDay (day_at secs))
    (whole : (secs : ℕ) → IsMoment secs → (first_moment + day_at secs * 86400 ≤ secs) × (secs < first_moment + (day_at secs + 1) * 86400))
    (shown : (secs : ℕ) (c : Civil) → IsMoment secs → IsCivil secs c → HasDate (day_at secs) c.year c.month c.day) where
  -- the date that a moment's text begins with is its day's, and the time of day follows
  pub time-read : (value date clock : List ℕ) (m : ℕ) → length date ≡ 10 → value ≡ date ++ clock → IsMoment m → value ≡ time_text m
      → IsDayText date (day_at m) × (clock ≡ clock_after (m % 86400))
  time-read value date clock m ten parts is written =
      let c = civil_at m in
      let cut = same_start date (iso_date c.year c.month c.day) clock (clock_after (m % 86400))
      (ten ∙ sym (date-length c.year c.month c.day)) (sym parts ∙ written ∙ time-split m) in (
        record {
          range = range m is;
          year = c.year;
          month = c.month;
          date = c.day;
          dated = shown m c is (each_moment m is);
          written = cut.0;
        },
        cut.1,
      )

  -- the text of a day and of a time of day is that of the moment
  pub time-written : ((day y m d year month date : ℕ) → HasDate day y m d → HasDate day year month date → (y ≡ year) × (m ≡ month) × (d ≡ date))
      → (value date clock : List ℕ) (day seconds m : ℕ) → value ≡ date ++ clock → IsDayText date day → seconds < 86400 → clock ≡ clock_after seconds
      → IsMoment m → m ≡ 725846400 + day * 86400 + seconds → value ≡ time_text m
  time-written one_date value date clock day seconds m parts dated few later is same =
      let c = civil_at m in
      let day-is : day_at m ≡ day = omega (arith, whole m is, same, few) in
      let rest-is : seconds ≡ m % 86400 = omega (arith, same, few) in
      let has = subst (λ (d : ℕ). HasDate d c.year c.month c.day) day-is (shown m c is (each_moment m is)) in
      let one = one_date day dated.year dated.month dated.date c.year c.month c.day dated.dated has in
      parts ∙ ap (λ (text : List ℕ). text ++ clock) (dated.written
      ∙ ap (λ (y : ℕ). iso_date y dated.month dated.date) one.0 ∙ ap (λ (n : ℕ). iso_date c.year n dated.date) one.1
      ∙ ap (λ (d : ℕ). iso_date c.year c.month d) one.2)
      ∙ ap (λ (text : List ℕ). iso_date c.year c.month c.day ++ text) (later ∙ ap clock_after rest-is)
      ∙ sym (time-split m)

-- the moment of so many seconds, whose text this is, is what was read
pub moment_found : (value : List ℕ) (n : ℕ) (z : ℤ) (r : Option ℕ) → (IsMoment n → value ≡ time_text n) → IsMoment n → z ≡ pos n
    → (IsSome r ↔ ((pos first_moment ≤ℤ z) × (z ≤ℤ pos last_moment))) → IfSome r (λ m. pos m ≡ z)
    → IsFound (λ m. IsMoment m × (value ≡ time_text m)) r
moment_found value n z (Some m) written is same known given =
    let equal : n ≡ m = cc in
    subst (λ (k : ℕ). IsMoment k × (value ≡ time_text k)) equal (is, written is)
moment_found value n z None written is same known given = λ m found.
    let within : (pos first_moment ≤ℤ pos n) × (pos n ≤ℤ pos last_moment) = (omega (arith, ints, is.0), omega (arith, ints, is.1)) in
    let there : IsSome {T = ℕ} None = known.1 (subst (λ y. (pos first_moment ≤ℤ y) × (y ≤ℤ pos last_moment)) (sym same) within) in cc

-- a number of two digits
two_plain : (n : ℕ) → n < 100 → LacksStop (two_digits n)
two_plain n few = (digit (48 + n / 10) (omega arith) (omega (arith, few)), (digit (48 + n % 10) (omega arith) (omega arith), tt))

date_plain : (year month day : ℕ) → year < 10000 → month < 100 → day < 100 → LacksStop (iso_date year month day)
unfolding iso_date
date_plain year month day y m d =
    let years = two_digits (year / 100) ++ two_digits (year % 100) in
    let plain : LacksStop years =
    plain_append (two_digits (year / 100)) (two_digits (year % 100)) (two_plain (year / 100) (omega (arith, y))) (two_plain (year % 100) (omega arith)) in
    let months : LacksStop (45 ∷ two_digits month) = (refl, two_plain month m) in
    let days : LacksStop (45 ∷ two_digits day) = (refl, two_plain day d) in
    plain_append (years ++ 45 ∷ two_digits month) (45 ∷ two_digits day) (plain_append years (45 ∷ two_digits month) plain months) days

clock_plain : (seconds : ℕ) → seconds < 86400 → LacksStop (clock_after seconds)
clock_plain seconds few =
    let hour = two_plain (seconds / 3600) (omega (arith, few)) in
    let minute = two_plain (seconds / 60 % 60) (omega arith) in
    let second = two_plain (seconds % 60) (omega arith) in
    (refl, (hour.0, (hour.1.0, (refl, (minute.0, (minute.1.0, (refl, (second.0, (second.1.0, (refl, tt))))))))))

-- no time has a stop in it
pub plain_time : ((secs : ℕ) → IsMoment secs → IsCivil secs (civil_at secs)) → ((secs : ℕ) (c : Civil) → IsMoment secs → IsCivil secs c → IsWithinRanges c)
    → (m : ℕ) → IsMoment m → LacksStop (time_text m)
plain_time each_moment ranges m is =
    let c = civil_at m in
    let within = ranges m c is (each_moment m is) in
    subst LacksStop (sym (time-split m))
    (plain_append (iso_date c.year c.month c.day) (clock_after (m % 86400))
    (date_plain c.year c.month c.day (omega (arith, within.year)) (omega (arith, within.month)) (omega (arith, within.day)))
    (clock_plain (m % 86400) (omega arith)))

-- a text is what stands before a place and what stands behind it
pub two_parts : (k : ℕ) (text front back : List ℕ) → front ≡ take k text → back ≡ drop k text → text ≡ front ++ back
two_parts k text front back before behind =
    sym (take-append-drop k text) ∙ ap (λ (t : List ℕ). t ++ drop k text) (sym before) ∙ ap (λ (t : List ℕ). front ++ t) (sym behind)
