use Rattle.std.proofs.Common.{rules, sym}
use Rattle.sts_fields.specs.Moment.{IsMoment}
use Rattle.sts_fields.proofs.DayLemmas.{day_at-is, shown}
use Rattle.sts_fields.proofs.day.day_of.Goals as goal

pub returns-clause-value : goal.returns-clause-value
returns-clause-value c =
    let moment : IsMoment c.args.moment = search rules in
    rw (c.seconds.ensures) (sym (day_at-is c.args.moment moment))

pub returns-clause-date : goal.returns-clause-date
returns-clause-date c = λ civil is.
    let moment : IsMoment c.args.moment = search rules in
    rw (returns-clause-value c) (shown c.args.moment civil moment is)
