-- Moments: the seconds of the years 1993 to 2099, in UTC.
use Rattle.std.specs.Prelude.{ℕ, ◌≤◌}

-- seconds since 1970-01-01T00:00:00Z
abbrev pub UnixSeconds : Type 0
UnixSeconds = ℕ

-- 1993-01-01T00:00:00Z
abbrev pub first_moment : UnixSeconds
first_moment = 725846400

-- 2099-12-31T23:59:59Z
abbrev pub last_moment : UnixSeconds
last_moment = 4102444799

-- these Unix seconds are a moment's
abbrev pub IsMoment : UnixSeconds → Type 0
IsMoment secs = (first_moment ≤ secs) × (secs ≤ last_moment)
