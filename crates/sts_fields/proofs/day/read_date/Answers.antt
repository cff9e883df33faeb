use Rattle.std.proofs.Common.{◌≡◌, ◌+◌, ◌*◌, ◌/◌, ◌%◌, get_or, length, arith, rules}
use Rattle.jiff_core.proofs.SignedLemmas.{signed_arith}
use Rattle.sts_fields.proofs.DayLemmas.{bounds, calendar-has, date-read, digits-of, is_date-as}
use Rattle.sts_fields.proofs.day.read_date.Goals as goal
use Rattle.sts_fields.proofs.day.read_date.Goals.{then-left-ne45-via-then-left-ne45, then-left-ne45-via-else-left-ne45+then-right-ne45}

pub returns-in_default : goal.returns-in_default
returns-in_default c = λ year month date there e.
    absurd (omega (arith, c.in_default.len_below, (digits-of _ year month date e).ten))

pub returns-in_default-2 : goal.returns-in_default-2
returns-in_default-2 c = λ year month date there e.
    absurd (omega (arith, c.in_default.len_at_least, (digits-of _ year month date e).ten))

pub returns-then-left-ne45 : goal.returns-then-left-ne45
returns-then-left-ne45 c = λ year month date there e.
    let parts = digits-of c.args.text.now year month date e in
    elim c.then-left-ne45.branch [
      | then-left-ne45-via-then-left-ne45 w ↦ w.if-left-ne45.true parts.left
      | then-left-ne45-via-else-left-ne45+then-right-ne45 w ↦ w.if-right-ne45.true parts.right
    ]

pub returns-in_err-century : goal.returns-in_err-century
returns-in_err-century c = rw c.from_residual.ensures
    (λ year month date there e. c.in_err-century.ensures (year / 100) (bounds year month date there).few_centuries
    (digits-of c.args.text.now year month date e).century)

pub returns-in_err-year : goal.returns-in_err-year
returns-in_err-year c = rw c.from_residual-in_err-year.ensures
    (λ year month date there e. c.in_err-year.ensures (year % 100) (bounds year month date there).few_years
    (digits-of c.args.text.now year month date e).year_in_century)

pub returns-in_err-month : goal.returns-in_err-month
returns-in_err-month c = rw c.from_residual-in_err-month.ensures
    (λ year month date there e. c.in_err-month.ensures month (bounds year month date there).few_months
    (digits-of c.args.text.now year month date e).month_digits)

pub returns-in_err-date : goal.returns-in_err-date
returns-in_err-date c = rw c.from_residual-in_err-date.ensures
    (λ year month date there e. c.in_err-date.ensures date (bounds year month date there).few_days (digits-of c.args.text.now year month date e).date_digits)

pub returns-in-Ok : goal.returns-in-Ok
returns-in-Ok c =
    let century = c.in_ok-century.ensures in
    let year = c.in_ok-year.ensures in
    let month = c.in_ok-month.ensures in
    let date = c.in_ok-date.ensures in
    let is = c.in-Ok.ensures.value in
    let ten : length c.args.text.now ≡ 10 = omega (arith, c.in-len10.len_at_least, c.in-len10.len_below) in
    let left : get_or c.args.text.now 4 0 ≡ 45 = search rules in
    let right : get_or c.args.text.now 7 0 ≡ 45 = search rules in
    let text = date-read c.args.text.now century.0 year.0 month.0 date.0 ten left right century.2 year.2 century.3 year.3 month.3 date.3 in
    let in_year : c.in-Ok.date.month ≡ month.0 = omega (arith, signed_arith, is.1, month.1) in
    let in_month : c.in-Ok.date.day ≡ date.0 = omega (arith, signed_arith, is.2, date.1) in
    (century.0 * 100 + year.0, omega (arith, signed_arith, is.0, c.from.ensures, c.from-2.ensures, century.1, year.1), rw (in_year, in_month) text)

pub returns-in-Err : goal.returns-in-Err
returns-in-Err c = λ y m d there e.
    let century = c.in_ok-century.ensures in
    let year = c.in_ok-year.ensures in
    let month = c.in_ok-month.ensures in
    let date = c.in_ok-date.ensures in
    let has = calendar-has c.args.text.now century.0 year.0 month.0 date.0 y m d there e century.2 year.2 month.2 date.2 century.3 year.3 month.3 date.3 in
    let ok = c.in-Err.ensures.succeeds.1 (is_date-as _ _ _ (century.0 * 100 + year.0) month.0 date.0
    (omega (arith, signed_arith, c.from.ensures, c.from-2.ensures, century.1, year.1, century.2, year.2))
    (omega (arith, signed_arith, month.1, month.2)) (omega (arith, signed_arith, date.1, date.2)) has) in
    cc
