use Rattle.std.proofs.Common.{◌≡◌, ◌∙◌, Ok, ap, rules}
use Rattle.sts_fields.specs.Calendar.{month_at, month_number}
use Rattle.sts_fields.specs.Moment.{IsMoment}
use Rattle.sts_fields.proofs.CalendarLemmas.{civil-years, month_at-civil}
use Rattle.sts_fields.proofs.calendar.month_of.Goals as goal

pub returns-clause-value : goal.returns-clause-value
returns-clause-value c =
    let ranges = c.in_ok-civil.ensures.ranges in
    rw (c.from.ensures, c.from-2.ensures, month_at-civil c.args.moment c.in_ok-civil.civil c.in_ok-civil.ensures.shown ranges.year.0 ranges.year.1)

pub returns-clause-date : goal.returns-clause-date
returns-clause-date c = λ civil is.
    let moment : IsMoment c.args.moment = search rules in
    let years = civil-years c.args.moment civil moment.0 moment.1 is in
    let month : month_at c.args.moment ≡ month_number civil =
    month_at-civil c.args.moment civil is years.0 years.1 in
    returns-clause-value c ∙ ap Ok month
