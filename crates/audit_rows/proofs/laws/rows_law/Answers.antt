use Rattle.std.proofs.Common.{◌<◌, ◌^◌, ℕ, arith}
use Rattle.sts_fields.specs.Calendar.{civil_at, month_at}
use Rattle.sts_fields.specs.Moment.{IsMoment}
use Rattle.audit_rows.specs.Tables.{tables_of}
use Rattle.audit_rows.proofs.TrueLemmas.{breaks_none, no_format_none}
use Rattle.audit_rows.proofs.laws.rows_law.Goals as goal

pub returns-clause-no_format : goal.returns-clause-no_format
returns-clause-no_format c = no_format_none

pub returns-clause-breaks : goal.returns-clause-breaks
returns-clause-breaks c =
    let small : (secs : ℕ) → IsMoment secs → month_at secs < 2 ^ 32 = λ secs moment.
    let civil = c.calendar_law.ensures.each_moment secs moment in
    let ranges = c.calendar_law.ensures.ranges secs (civil_at secs) moment civil in
    let month = c.calendar_law.ensures.month secs (civil_at secs) civil ranges.year in
    omega (arith, month, ranges.year, ranges.month) in
    λ n f db o breaks stands. breaks_none db o stands small c.amount_law.ensures.greatest (tables_of n) f breaks
