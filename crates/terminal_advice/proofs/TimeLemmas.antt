-- How the text of a moment is put together.
use Rattle.std.proofs.Common.{◌≡◌, ℕ, ◌/◌, ◌%◌, [], ◌∷◌, ◌++◌, Result, Ok, append_assoc}
use Rattle.papers.specs.Text.{time_text}
use Rattle.sts_fields.specs.Calendar.{civil_at}
use Rattle.sts_fields.specs.Day.{iso_date, two_digits}
use Rattle.sts_fields.specs.declared.calendar.date_time.Civil.{Civil}

-- a date and a time of day, part behind part
pub time-parts : (moment : ℕ) (c : Civil) → c ≡ civil_at moment
    → ((((((((((((([] ++ two_digits (c.year / 100)) ++ two_digits (c.year % 100)) ++ 45 ∷ []) ++ two_digits c.month) ++ 45 ∷ [])
    ++ two_digits c.day) ++ 84 ∷ []) ++ two_digits c.hour) ++ 58 ∷ []) ++ two_digits c.minute) ++ 58 ∷ []) ++ two_digits c.second)
    ++ 90 ∷ []) ≡ time_text moment
unfolding time_text iso_date
time-parts moment c shown = rw shown (simp append_assoc)

-- a result has one value
pub same-value : {T E : Type 0} (r : Result T E) (x y : T) → r ≡ Ok x → r ≡ Ok y → x ≡ y
same-value r x y p q = cc
