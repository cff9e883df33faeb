use Rattle.std.proofs.Common.{◌≡◌, ◌∙◌, ℕ, ◌+◌, ◌*◌, ◌%◌, List, ◌++◌, length, ap, sym, arith, pos, refl, subst}
use Rattle.std.proofs.lemmas.Int.{ints}
use Rattle.std.proofs.lemmas.List.{take-append-drop}
use Rattle.sts_fields.specs.Day.{IsDayText, day_at}
use Rattle.desk_client.proofs.TimeLemmas.{moment_found, time-length, time-read, time-written, two_parts}
use Rattle.desk_client.proofs.ValueLemmas.{same_signed}
use Rattle.desk_client.proofs.time.time_of.Goals as goal

pub returns-then-value-ne20 : goal.returns-then-value-ne20
returns-then-value-ne20 c = λ m found. absurd (omega (arith, c.if-value-ne20.true, ap length found.1, time-length m))

pub returns-in_default : goal.returns-in_default
returns-in_default c = λ m found.
    let calendar = c.calendar_law.ensures in
    let days = c.day_law.ensures in
    let value = c.args.value.now in
    let parts = two_parts 10 value c.split_at.result.0.now c.split_at.result.1.now c.split_at.ensures.front c.split_at.ensures.back in
    let read =
    time-read calendar.each_moment days.range days.whole days.shown value c.split_at.result.0.now c.split_at.result.1.now m
    c.split_at.ensures.front_len parts found.0 found.1 in
    let ok = c.in_default.ensures.reads.1 (day_at m, read.0) in cc

pub returns-in_default-clock_of : goal.returns-in_default-clock_of
returns-in_default-clock_of c = λ m found.
    let calendar = c.calendar_law.ensures in
    let days = c.day_law.ensures in
    let value = c.args.value.now in
    let parts = two_parts 10 value c.split_at.result.0.now c.split_at.result.1.now c.split_at.ensures.front c.split_at.ensures.back in
    let read =
    time-read calendar.each_moment days.range days.whole days.shown value c.split_at.result.0.now c.split_at.result.1.now m
    c.split_at.ensures.front_len parts found.0 found.1 in
    c.in_default-clock_of.ensures (m % 86400) (omega arith, read.1)

pub returns : goal.returns
returns c =
    let calendar = c.calendar_law.ensures in
    let days = c.day_law.ensures in
    let value = c.args.value.now in
    let day = c.days.result in
    let seconds = c.in-Some.seconds in
    let n = 725846400 + day * 86400 + seconds in
    let parts = two_parts 10 value c.split_at.result.0.now c.split_at.result.1.now c.split_at.ensures.front c.split_at.ensures.back in
    let few = c.in-Some.ensures.0 in
    moment_found value n _ c.of_secs.result
    (λ is. time-written calendar.each_moment days.range days.whole days.shown days.one_date value c.split_at.result.0.now c.split_at.result.1.now day seconds n parts (subst (IsDayText c.split_at.result.0.now) (sym c.days.ensures.value) c.in-Ok.ensures.value) few c.in-Some.ensures.1 is refl)
    (omega (arith, c.days.ensures.range, c.days.ensures.value), omega (arith, c.days.ensures.range, c.days.ensures.value, few))
    (same_signed n c.from.result (omega (arith, c.days.ensures.range, c.days.ensures.value, few)) c.from.ensures)
    c.of_secs.ensures.range c.of_secs.ensures.value
