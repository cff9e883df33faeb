-- Sales of one office or of two that lie so far apart that the later one has the greater
-- identifier.
use Rattle.std.specs.Prelude.{◌≡◌, ℕ, ◌+◌, ◌*◌, ◌/◌, ◌≤◌, List, Ok}
use Rattle.sts_fields.specs.Moment.{UnixSeconds}
use Rattle.sts_fields.specs.Tid.{greatest_lead, minute_of}
use Rattle.vend_core.specs.Law.Life.{LeadTo, Life, WasMadeSince}
use Rattle.office_rules.specs.Office.{IsOffice, Office}
use Rattle.office_rules.specs.declared.office.sale.Sale.{Sale}

-- lives made the sale, whichever office they began with
pub record HaveMade (lives : List Life) (s : Sale) : Type 0 where
  pub start : Office
  pub office : Office
  pub begins : IsOffice start
  pub lead : LeadTo start lives office
  pub made : WasMadeSince start office s

-- the sale's identifier is the minute of its moment, or lies ahead of it, by a day at the most
pub record IsTimely (s : Sale) : Type 0 where
  pub minute : ℕ
  pub minute_is : minute_of s.base s.moment ≡ Ok minute
  pub not_past : minute ≤ s.tid
  pub lead : s.tid ≤ minute + greatest_lead

-- the first moment that is a day after the end of the minute of another one: in minutes of 60
-- seconds, by which base dates begin too
abbrev pub day_after : UnixSeconds → UnixSeconds
day_after moment = (moment / 60 + greatest_lead + 1) * 60

-- by so many seconds after a moment it has come, in whichever second of its minute that lies:
-- 1,441 minutes
abbrev pub seconds_apart : ℕ
seconds_apart = 86460
