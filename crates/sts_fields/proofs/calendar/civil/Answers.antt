use Rattle.std.proofs.Common.{◌≡◌, ap, Ok, pos, ◌*ℤ◌, arith}
use Rattle.jiff_core.specs.DateTime.{civil_nanos}
use Rattle.jiff_core.proofs.SignedLemmas.{signed_arith}
use Rattle.sts_fields.proofs.CalendarLemmas.{civil-ranges, civil_at-only, shown_civil, shown_year, shown_year-cast}
use Rattle.sts_fields.proofs.calendar.civil.Goals as goal

pub overflow_cast-result : goal.overflow_cast-result
overflow_cast-result c =
    let secs = c.secs.ensures.value in
    let moment = c.secs.ensures.range in
    let nanos : civil_nanos c.in_ok-shown.shown ≡ pos c.args.moment *ℤ pos 1000000000 =
    omega (arith, signed_arith, c.in_ok-shown.ensures) in
    let range = c.in_ok-shown.shown.date.year_in in
    let year = shown_year c.in_ok-shown.shown c.args.moment (omega (arith, signed_arith)) nanos in
    rw (shown_year-cast c.in_ok-shown.shown, year) (tt, omega (arith, signed_arith))

pub returns-clause-shown : goal.returns-clause-shown
returns-clause-shown c =
    let secs = c.secs.ensures.value in
    let moment = c.secs.ensures.range in
    let nanos : civil_nanos c.in_ok-shown.shown ≡ pos c.args.moment *ℤ pos 1000000000 =
    omega (arith, signed_arith, c.in_ok-shown.ensures) in
    rw (shown_year-cast c.in_ok-shown.shown)
    (shown_civil c.in_ok-shown.shown c.args.moment (omega (arith, signed_arith)) nanos)

pub returns-clause-ranges : goal.returns-clause-ranges
returns-clause-ranges c =
    let secs = c.secs.ensures.value in
    let range = c.secs.ensures.range in
    let shown = returns-clause-shown c in
    civil-ranges c.args.moment _ (omega (arith, signed_arith)) (omega (arith, signed_arith)) shown

pub returns-clause-value : goal.returns-clause-value
returns-clause-value c =
    let secs = c.secs.ensures.value in
    let range = c.secs.ensures.range in
    ap Ok (civil_at-only c.args.moment _ (omega (arith, signed_arith)) (omega (arith, signed_arith))
    (returns-clause-shown c))
