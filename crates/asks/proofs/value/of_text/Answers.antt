use Rattle.std.proofs.Common.{ℕ}
use Rattle.sts_fields.specs.Day.{IsDayText}
use Rattle.asks.proofs.ValueLemmas.{not_day, not_key, told_day, told_key}
use Rattle.asks.proofs.value.of_text.Goals as goal

pub returns-in-Ok : goal.returns-in-Ok
returns-in-Ok c = told_day c.days_law.ensures c.args.kind c.args.bytes.now c.in-Ok.day c.in-Day.is c.in-Ok.ensures.value

pub returns-in-Err : goal.returns-in-Err
returns-in-Err c = not_day c.days_law.ensures c.args.kind c.args.bytes.now c.in-Day.is (λ day is. let there = c.in-Err.ensures.reads.1 (day, is) in absurd cc)

pub returns-in-Some : goal.returns-in-Some
returns-in-Some c = told_key c.args.kind c.args.bytes.now c.in-Some.key c.in-Key.is c.in-Some.ensures.value

pub returns-in-None : goal.returns-in-None
returns-in-None c = not_key c.args.kind c.args.bytes.now c.in-Key.is (λ digits. let there = c.in-None.ensures.digits.1 digits in absurd cc)
