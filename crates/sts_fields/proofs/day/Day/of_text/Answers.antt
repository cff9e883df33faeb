use Rattle.std.proofs.Common.{ℕ, refl, rules}
use Rattle.sts_fields.specs.Day.{IsDay, IsDayText}
use Rattle.sts_fields.proofs.DayLemmas.{day-read, no-day}
use Rattle.sts_fields.proofs.day.Day.of_text.Goals as goal

pub returns-in-Some-day_of_date-clause-value : goal.returns-in-Some-day_of_date-clause-value
returns-in-Some-day_of_date-clause-value c =
    let range : IsDay c.in-Some-day_of_date.day = search rules in
    day-read c.args.text.now c.in-Some.date c.in-Some-day_of_date.day c.in-Some.ensures range c.in-Some-day_of_date.ensures

pub returns-in-Some-day_of_date-clause-reads : goal.returns-in-Some-day_of_date-clause-reads
returns-in-Some-day_of_date-clause-reads c = (λ ok. (c.in-Some-day_of_date.day, returns-in-Some-day_of_date-clause-value c), λ day. refl)

pub returns-in-Some-day_of_date-clause-not_a_day : goal.returns-in-Some-day_of_date-clause-not_a_day
returns-in-Some-day_of_date-clause-not_a_day c =
    (λ e day is. cc, λ none. absurd (none c.in-Some-day_of_date.day (returns-in-Some-day_of_date-clause-value c)))

none : (c : goal.In-None) (day : ℕ) → ¬ IsDayText c.args.text.now day
none c = no-day c.args.text.now c.in-Some.date c.in-Some.ensures c.in-None.ensures

pub returns-in-None-clause-reads : goal.returns-in-None-clause-reads
returns-in-None-clause-reads c = (λ ok. cc, λ day. absurd (none c day.0 day.1))

pub returns-in-None-clause-not_a_day : goal.returns-in-None-clause-not_a_day
returns-in-None-clause-not_a_day c = (λ e. none c, λ always. refl)
