-- The parts that the lines of papers are made of.
use Rattle.std.specs.Prelude.{ℕ, ◌-◌, ◌*◌, ◌/◌, ◌%◌, ◌+◌, List, [], ◌∷◌, ◌++◌, length, map}
use Rattle.std.specs.Prelude.{replicate, slice_range, codes, decimal}
use Rattle.std.specs.List.{join_with_byte, range_with_len}
use Rattle.sts_fields.specs.Calendar.{civil_at}
use Rattle.sts_fields.specs.Day.{iso_date, two_digits}
use Rattle.sts_fields.specs.Text.{colon}
use Rattle.sts_fields.specs.declared.calendar.date_time.Civil.{Civil}
use Rattle.office_rules.specs.declared.office.sale.Sale.{Sale}

abbrev pub line_feed : ℕ
line_feed = 10

abbrev pub space : ℕ
space = 32

abbrev pub point : ℕ
point = 46

-- a line: a word, a space, its value and a line feed
unfoldable pub line : List ℕ → List ℕ → List ℕ
line word value = word ++ space ∷ value ++ line_feed ∷ []

-- a text at the right of so many places, which spaces fill
unfoldable pub right : ℕ → List ℕ → List ℕ
right places text = replicate (places - length text) space ++ text

-- a date, as 2014-01-01
abbrev pub date_text : Civil → List ℕ
date_text c = iso_date c.year c.month c.day

-- a time of day, as 00:00:30
abbrev pub clock_text : Civil → List ℕ
clock_text c = two_digits c.hour ++ colon ∷ two_digits c.minute ++ colon ∷ two_digits c.second

-- both, in UTC, as 2014-01-01T00:00:30Z
abbrev pub civil_text : Civil → List ℕ
civil_text c = date_text c ++ codes "T" ++ clock_text c ++ codes "Z"

-- the date and the time of day that a clock in UTC shows at a moment
unfoldable pub time_text : ℕ → List ℕ
time_text moment = civil_text (civil_at moment)

-- a number of tenths of a kWh, in kWh: whole ones, a point and the tenths that are left
unfoldable pub kwh_text : ℕ → List ℕ
kwh_text tenths = decimal (tenths / 10) ++ point ∷ decimal (tenths % 10)

-- so many groups of four digits, a space between them
abbrev pub groups : List ℕ → ℕ → List ℕ
groups digits count =
    join_with_byte space
    (map (λ group. slice_range digits (4 * group) (4 * group + 4)) (range_with_len 0 count))

-- the digits of a token in five groups of four
unfoldable pub grouped : List ℕ → List ℕ
grouped digits = groups digits 5

-- what a customer gets back of the tender
abbrev pub change_of : Sale → ℕ
change_of s = s.tender - s.price
