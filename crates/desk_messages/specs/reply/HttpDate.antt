-- The date of a reply, as HTTP writes it.
use Rattle.std.specs.Prelude.{◌≡◌, ℕ, ◌/◌, ◌&&◌, nat_le, ℤ, pos, List, Option, None, Some}
use Rattle.std.specs.Prelude.{if◌then◌else◌}
use Rattle.sts_fields.specs.Calendar.{civil_at}
use Rattle.sts_fields.specs.Moment.{UnixSeconds, first_moment, last_moment}
use Rattle.httpdate.specs.declared.date.HttpDate.{HttpDate}
use Rattle.httpdate.specs.declared.parts.Parts.{Parts}
use Rattle.httpdate.specs.Calendar.{weekday}
use Rattle.httpdate.specs.Date.{date_text, unix_secs}
use Rattle.httpdate.specs.Text.{imf_fixdate}

-- what a clock in UTC shows at these Unix seconds, and the day of the week
abbrev pub shown_at : UnixSeconds → Parts
shown_at secs =
    record {
      year = (civil_at secs).year;
      mon = (civil_at secs).month;
      day = (civil_at secs).day;
      hour = (civil_at secs).hour;
      min = (civil_at secs).minute;
      sec = (civil_at secs).second;
      wday = weekday (secs / 86400);
    }

-- the date and the time of day as HTTP writes them: `Sun, 06 Nov 1994 08:49:37 GMT`
unfoldable pub http_date : UnixSeconds → List ℕ
http_date secs = imf_fixdate (shown_at secs)

-- text is the date of HTTP at these Unix seconds
abbrev pub IsDateAt : UnixSeconds → List ℕ → Type 0
IsDateAt secs text = (date : HttpDate) × (unix_secs date ≡ secs) × (text ≡ date_text date)

-- the moment that the clock gave, if it gave one
abbrev pub moment_given : Option ℤ → Option UnixSeconds
moment_given (Some (pos secs)) =
    if nat_le first_moment secs && nat_le secs last_moment then Some secs else None
moment_given now = None
