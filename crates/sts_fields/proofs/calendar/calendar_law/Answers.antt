use Rattle.sts_fields.proofs.CalendarLemmas.{base_date-civil, civil-ranges, civil_at-is, civil_at-only, moment_of_civil, month_at-civil, month_at-mono}
use Rattle.sts_fields.proofs.calendar.calendar_law.Goals as goal

pub returns-clause-month : goal.returns-clause-month
returns-clause-month c = λ secs civil is year. month_at-civil secs civil is year.0 year.1

pub returns-clause-never_back : goal.returns-clause-never_back
returns-clause-never_back c = month_at-mono

pub returns-clause-each_moment : goal.returns-clause-each_moment
returns-clause-each_moment c = λ secs range. civil_at-is secs range.0 range.1

pub returns-clause-one_civil : goal.returns-clause-one_civil
returns-clause-one_civil c = λ secs civil range. civil_at-only secs civil range.0 range.1

pub returns-clause-each_civil : goal.returns-clause-each_civil
returns-clause-each_civil c = moment_of_civil

pub returns-clause-ranges : goal.returns-clause-ranges
returns-clause-ranges c = λ secs civil range. civil-ranges secs civil range.0 range.1

pub returns-clause-bases : goal.returns-clause-bases
returns-clause-bases c = base_date-civil
