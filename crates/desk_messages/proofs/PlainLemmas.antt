-- Texts that stand between quotation marks as they are: digits, the text of steps, and dates.
use Rattle.std.proofs.Common.{◌≡◌, Bool, true, ℕ, ◌+◌, ◌/◌, ◌%◌, ◌^◌, ◌<◌, ◌≤◌, List, [], ◌∷◌, ◌++◌, Option, Some, None, arith}
use Rattle.std.specs.Prelude.{All, IfSome, decimal}
use Rattle.std.specs.Str.Parse.{AllDigits}
use Rattle.std.proofs.lemmas.Bool.Decides.{nat_tests}
use Rattle.std.proofs.lemmas.Fmt.{decimal_is_IsNumeral}
use Rattle.std.proofs.lemmas.List.Elements.{All-head, All-tail}
use Rattle.std.proofs.lemmas.Str.Parse.{digit_from_value}
use Rattle.std.specs.Char.{is_ascii_alphanumeric, is_ascii_digit}
use Rattle.std.specs.List.{AllPass}
use Rattle.std.proofs.lemmas.List.Elements.{recursion_from_All}
use Rattle.records.specs.Cell.{IsPlain, is_plain}
use Rattle.sts_fields.specs.Calendar.{IsWithinRanges, civil_at}
use Rattle.tariff.specs.Steps.{IsSteps}
use Rattle.office_rules.specs.Name.{is_name_byte}
use Rattle.desk_messages.specs.reply.Lists.{beginning, day_text}
use Rattle.sts_fields.specs.Day.{iso_date, two_digits}
use Rattle.tariff.specs.StepsText.{IsWritable, end_text, step_text, steps_text}
use Rattle.tariff.specs.declared.step.Step.{Step}

plain_byte : (b : ℕ) → 44 ≤ b → b < 92 → is_plain b ≡ true
plain_byte b low high = grind (arith, nat_tests)

-- two plain texts make one
pub plain-append : (a b : List ℕ) → IsPlain a → IsPlain b → IsPlain (a ++ b)
plain-append [] b p q = q
plain-append (c ∷ a) b p q = (p.0, plain-append a b p.1 q)

plain-cons : (b : ℕ) (text : List ℕ) → 44 ≤ b → b < 92 → IsPlain text → IsPlain (b ∷ text)
plain-cons b text low high p = (plain_byte b low high, p)

plain-digits : (text : List ℕ) → AllDigits 10 text → IsPlain text
plain-digits [] all = tt
plain-digits (c ∷ text) all =
    let digit = digit_from_value c all.0 in
    plain-cons c text (omega (arith, digit.0)) (omega (arith, digit.1)) (plain-digits text all.1)

-- the digits of a number are plain
pub plain-decimal : (n : ℕ) → n < 2 ^ 32 → IsPlain (decimal n)
plain-decimal n small = plain-digits (decimal n) (decimal_is_IsNumeral n (omega (arith, small))).0.1

plain-end : (end : Option ℕ) → IfSome end (λ e. e < 2 ^ 32) → IsPlain (end_text end)
plain-end None fits = tt
plain-end (Some e) fits = plain-decimal e fits

plain-step : (s : Step) → IsWritable s → IsPlain (step_text s)
plain-step s w =
    plain-append (end_text s.ends) (58 ∷ decimal s.price) (plain-end s.ends w.0)
    (plain-cons 58 (decimal s.price) (omega arith) (omega arith) (plain-decimal s.price w.1))

-- the text of steps has digits, colons and semicolons
pub plain-steps : (steps : List Step) → All IsWritable steps → IsPlain (steps_text steps)
plain-steps [] w = tt
plain-steps (s ∷ []) w = plain-step s (All-head IsWritable s [] w)
plain-steps (s ∷ t ∷ steps) w =
    plain-append (step_text s) (59 ∷ steps_text (t ∷ steps)) (plain-step s (All-head IsWritable s (t ∷ steps) w))
    (plain-cons 59 (steps_text (t ∷ steps)) (omega arith) (omega arith) (plain-steps (t ∷ steps) (All-tail IsWritable s (t ∷ steps) w)))

plain-two : (n : ℕ) (text : List ℕ) → n < 100 → IsPlain text → IsPlain (two_digits n ++ text)
plain-two n text small p =
    plain-cons (48 + n / 10) ((48 + n % 10) ∷ text) (omega arith) (omega (arith, small))
    (plain-cons (48 + n % 10) text (omega arith) (omega arith) p)

-- a date has digits and hyphens
pub plain-date : (year month date : ℕ) → year < 10000 → month < 100 → date < 100 → IsPlain (iso_date year month date)
unfolding iso_date
plain-date year month date y m d =
    let last = plain-two date [] d tt in
    let dashed = plain-cons 45 (two_digits date) (omega arith) (omega arith) last in
    let months = plain-two month (45 ∷ two_digits date) m dashed in
    let hyphened = plain-cons 45 (two_digits month ++ 45 ∷ two_digits date) (omega arith) (omega arith) months in
    let years = plain-two (year % 100) (45 ∷ (two_digits month ++ 45 ∷ two_digits date)) (omega arith) hyphened in
    plain-two (year / 100) (two_digits (year % 100) ++ 45 ∷ (two_digits month ++ 45 ∷ two_digits date)) (omega (arith, y)) years

-- what a page has: the steps of a tariff,
pub steps-plain : (steps : List Step) → IsSteps steps → IsPlain (steps_text steps)
steps-plain steps are = plain-steps steps (λ i d inside. (are.ends_fit i d inside, omega (arith, (are.prices i d inside).1)))

-- and days
pub day-plain : (day : ℕ) → IsWithinRanges (civil_at (beginning day)) → IsPlain (day_text day)
day-plain day shown =
    plain-date _ _ _ (omega (arith, shown.year.1)) (omega (arith, shown.month.1)) (omega (arith, shown.day.1))

-- ---- names

digit_passes : (b : ℕ) → is_ascii_digit b ≡ true → is_plain b ≡ true
digit_passes b e = grind (arith, nat_tests)

letter_passes : (b : ℕ) → is_ascii_alphanumeric b ≡ true → is_plain b ≡ true
letter_passes b e = grind (arith, nat_tests)

name_passes : (b : ℕ) → is_name_byte b ≡ true → is_plain b ≡ true
name_passes b e = grind (arith, nat_tests)

-- what passes a test that only plain bytes pass
passing : (test : ℕ → Bool) → ((b : ℕ) → test b ≡ true → is_plain b ≡ true) → (text : List ℕ) → AllPass test text → IsPlain text
passing test each text passes =
    recursion_from_All (λ byte. is_plain byte ≡ true) text (λ i d inside. each _ (passes i d inside))

-- digits are plain, as a meter's number is
pub plain_digits : (text : List ℕ) → AllPass is_ascii_digit text → IsPlain text
plain_digits = passing is_ascii_digit digit_passes

-- so are letters and digits, as an operator has them
pub plain_letters : (text : List ℕ) → AllPass is_ascii_alphanumeric text → IsPlain text
plain_letters = passing is_ascii_alphanumeric letter_passes

-- and the bytes of names
pub plain_name : (text : List ℕ) → AllPass is_name_byte text → IsPlain text
plain_name = passing is_name_byte name_passes
