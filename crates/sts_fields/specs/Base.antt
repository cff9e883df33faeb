-- The base dates, from which the minutes of an identifier count.
use Rattle.std.specs.Prelude.{ℕ, ◌==◌, Bool}
use Rattle.sts_fields.specs.Moment.{UnixSeconds}
use Rattle.sts_fields.specs.declared.base.Base.{Base}
use Rattle.sts_fields.specs.declared.base.Base.TheVariants.{Y1993, Y2014, Y2035}

-- the year whose first of January it is
abbrev pub year_of : Base → ℕ
year_of Y1993 = 1993
year_of Y2014 = 2014
year_of Y2035 = 2035

-- the two are one
abbrev pub base_eq : Base → Base → Bool
base_eq a b = year_of a == year_of b

-- 00:00 UTC of that day
abbrev pub base_date : Base → UnixSeconds
base_date Y1993 = 725846400
base_date Y2014 = 1388534400
base_date Y2035 = 2051222400
