use Rattle.std.proofs.Common.{◌≡◌, ◌+◌, ◌-◌, ◌*◌, ◌/◌, ◌%◌, ◌∷◌, [], ◌≤◌, arith, rules, w8}
use Rattle.std.proofs.lemmas.Int.{to_z_pos}
use Rattle.sts_fields.proofs.day.read_two.Goals as goal

pub returns-then-is_ascii_digit-2 : goal.returns-then-is_ascii_digit-2
returns-then-is_ascii_digit-2 c =
    let tens : (48 ≤ c.args.tens) × (c.args.tens ≤ 57) = search rules in
    let ones : (48 ≤ c.args.ones) × (c.args.ones ≤ 57) = search rules in
    let number = (c.args.tens - 48) * 10 + (c.args.ones - 48) in
    let high : c.args.tens ≡ 48 + number / 10 = omega arith in
    let low : c.args.ones ≡ 48 + number % 10 = omega arith in
    (number, to_z_pos w8 number (omega arith), omega arith, λ i. high i ∷ low i ∷ [])
