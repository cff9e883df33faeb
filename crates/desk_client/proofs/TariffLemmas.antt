-- Days and steps as values of a text.
use Rattle.std.proofs.Common.{◌≡◌, ◌∙◌, ℕ, ◌+◌, ◌/◌, ◌%◌, ◌^◌, ◌<◌, ◌≤◌, false, List, [], ◌∷◌, ◌++◌, codes, Option, Some, None, refl, ap, sym, append_assoc, arith}
use Rattle.std.specs.Prelude.{All, IfSome, decimal}
use Rattle.std.proofs.lemmas.Bool.Decides.{nat_tests}
use Rattle.std.proofs.lemmas.List.{append_cancel_left}
use Rattle.std.proofs.lemmas.List.Elements.{All-head, All-tail}
use Rattle.sts_fields.specs.Calendar.{IsCivil, IsWithinRanges, civil_at}
use Rattle.sts_fields.specs.Day.{IsDay, iso_date, two_digits}
use Rattle.sts_fields.specs.Moment.{IsMoment}
use Rattle.sts_fields.specs.declared.calendar.date_time.Civil.{Civil}
use Rattle.tariff.specs.Steps.{IsSteps}
use Rattle.tariff.specs.StepsText.{IsWritable, end_text, step_text, steps_text}
use Rattle.tariff.specs.declared.step.Step.{Step}
use Rattle.desk_messages.specs.reply.Lists.{beginning, day_text}
use Rattle.desk_client.specs.TariffItem.{with_steps}
use Rattle.desk_client.specs.Text.{LacksStop, is_stop}
use Rattle.desk_client.proofs.PlainLemmas.{plain_append, plain_number}
use Rattle.desk_client.proofs.WovenLemmas.{cut}

-- ---- no stop stands in a day or in steps

middle_byte : (b : ℕ) → 45 ≤ b → b < 60 → is_stop b ≡ false
middle_byte b low high = grind (arith, nat_tests)

plain_cons : (b : ℕ) (text : List ℕ) → 45 ≤ b → b < 60 → LacksStop text → LacksStop (b ∷ text)
plain_cons b text low high p = (middle_byte b low high, p)

plain_end : (end : Option ℕ) → IfSome end (λ e. e < 2 ^ 32) → LacksStop (end_text end)
plain_end None fits = tt
plain_end (Some e) fits = plain_number e (omega (arith, fits))

plain_step : (s : Step) → IsWritable s → LacksStop (step_text s)
plain_step s w =
    plain_append (end_text s.ends) (58 ∷ decimal s.price) (plain_end s.ends w.0)
    (plain_cons 58 (decimal s.price) (omega arith) (omega arith) (plain_number s.price (omega (arith, w.1))))

each_plain : (steps : List Step) → All IsWritable steps → LacksStop (steps_text steps)
each_plain [] w = tt
each_plain (s ∷ []) w = plain_step s (All-head IsWritable s [] w)
each_plain (s ∷ t ∷ steps) w =
    plain_append (step_text s) (59 ∷ steps_text (t ∷ steps)) (plain_step s (All-head IsWritable s (t ∷ steps) w))
    (plain_cons 59 (steps_text (t ∷ steps)) (omega arith) (omega arith) (each_plain (t ∷ steps) (All-tail IsWritable s (t ∷ steps) w)))

-- steps have digits, colons and semicolons
pub plain_steps : (steps : List Step) → IsSteps steps → LacksStop (steps_text steps)
plain_steps steps are = each_plain steps (λ i d inside. (are.ends_fit i d inside, omega (arith, (are.prices i d inside).1)))

plain_two : (n : ℕ) (text : List ℕ) → n < 100 → LacksStop text → LacksStop (two_digits n ++ text)
plain_two n text small p =
    plain_cons (48 + n / 10) ((48 + n % 10) ∷ text) (omega arith) (omega (arith, small))
    (plain_cons (48 + n % 10) text (omega arith) (omega arith) p)

plain_date : (year month date : ℕ) → year < 10000 → month < 100 → date < 100 → LacksStop (iso_date year month date)
unfolding iso_date
plain_date year month date y m d =
    let last = plain_two date [] d tt in
    let dashed = plain_cons 45 (two_digits date) (omega arith) (omega arith) last in
    let months = plain_two month (45 ∷ two_digits date) m dashed in
    let hyphened = plain_cons 45 (two_digits month ++ 45 ∷ two_digits date) (omega arith) (omega arith) months in
    let years = plain_two (year % 100) (45 ∷ (two_digits month ++ 45 ∷ two_digits date)) (omega arith) hyphened in
    plain_two (year / 100) (two_digits (year % 100) ++ 45 ∷ (two_digits month ++ 45 ∷ two_digits date)) (omega (arith, y)) years

-- a date has digits and hyphens
pub plain_day : ((secs : ℕ) → IsMoment secs → IsCivil secs (civil_at secs))
    → ((secs : ℕ) (c : Civil) → IsMoment secs → IsCivil secs c → IsWithinRanges c)
    → (day : ℕ) → IsDay day → LacksStop (day_text day)
plain_day civil ranges day is =
    let secs = beginning day in
    let moment : IsMoment secs = (omega arith, omega (arith, is)) in
    let shown = ranges secs (civil_at secs) moment (civil secs moment) in
    plain_date _ _ _ (omega (arith, shown.year.1)) (omega (arith, shown.month.1)) (omega (arith, shown.day.1))

-- ---- a value, and steps behind it

-- what stands behind the value
abbrev pub behind : List Step → List ℕ → List ℕ
behind steps rest = codes "\",\"steps\":\"" ++ (steps_text steps ++ (codes "\"}" ++ rest))

-- a value and its steps before what follows: the front, the value and what is behind it
pub spread : (front value : List ℕ) (steps : List Step) (rest : List ℕ) → with_steps front value steps ++ rest ≡ front ++ (value ++ behind steps rest)
spread front value steps rest =
    append_assoc front _ rest
    ∙ ap (λ (text : List ℕ). front ++ text) (append_assoc value (codes "\",\"steps\":\"" ++ (steps_text steps ++ codes "\"}")) rest
    ∙ ap (λ (text : List ℕ). value ++ (codes "\",\"steps\":\"" ++ text)) (append_assoc (steps_text steps) (codes "\"}") rest))

-- steps are cut off in one way
one_end : (written text rest more : List ℕ) → LacksStop written → LacksStop text → written ++ (codes "\"}" ++ rest) ≡ text ++ (codes "\"}" ++ more)
    → (written ≡ text) × (rest ≡ more)
one_end written text rest more lw lt e =
    let same = cut written text (codes "\"}" ++ rest) (codes "\"}" ++ more) lw lt refl refl e in
    (same.0, append_cancel_left (codes "\"}") rest more same.1)

-- behind one front these are read in one way
pub one_with_steps : (front a b : List ℕ) (s t : List Step) (rest more : List ℕ) → LacksStop a → LacksStop b → IsSteps s → IsSteps t
    → with_steps front a s ++ rest ≡ with_steps front b t ++ more → (a ≡ b) × (steps_text s ≡ steps_text t) × (rest ≡ more)
one_with_steps front a b s t rest more la lb are other e =
    let same = append_cancel_left front _ _ (sym (spread front a s rest) ∙ e ∙ spread front b t more) in
    let first = cut a b (behind s rest) (behind t more) la lb refl refl same in
    let second = one_end (steps_text s) (steps_text t) rest more (plain_steps s are) (plain_steps t other)
    (append_cancel_left (codes "\",\"steps\":\"") _ _ first.1) in
    (first.0, second.0, second.1)

-- what stands behind the value, as any reading of the text has it
pub behind_value : (text front left value rest : List ℕ) → text ≡ front ++ left → LacksStop value → left ≡ value ++ (codes "\",\"steps\":\"" ++ rest)
    → (other : List ℕ) (steps : List Step) (more : List ℕ) → LacksStop other → text ≡ with_steps front other steps ++ more
    → rest ≡ steps_text steps ++ (codes "\"}" ++ more)
behind_value text front left value rest is lacks cut_at other steps more plain same =
    let whole = append_cancel_left front left _ (sym is ∙ same ∙ spread front other steps more) in
    append_cancel_left (codes "\",\"steps\":\"") rest _
    (cut value other (codes "\",\"steps\":\"" ++ rest) (behind steps more) lacks plain refl refl (sym cut_at ∙ whole)).1

-- a value, steps and the end of an object, each cut off in turn
pub put_together : (text front left value rest written more : List ℕ) (steps : List Step) → text ≡ front ++ left
    → left ≡ value ++ (codes "\",\"steps\":\"" ++ rest) → rest ≡ written ++ (codes "\"}" ++ more) → written ≡ steps_text steps
    → text ≡ with_steps front value steps ++ more
put_together text front left value rest written more steps is cut_at cut_again are =
    is ∙ ap (λ (b : List ℕ). front ++ b) (
    cut_at ∙ ap (λ (b : List ℕ). value ++ (codes "\",\"steps\":\"" ++ b)) (cut_again ∙ ap (λ (b : List ℕ). b ++ (codes "\"}" ++ more)) are))
    ∙ sym (spread front value steps more)

-- the steps, as any reading has them
pub steps_there : (written rest more : List ℕ) (steps : List Step) (after : List ℕ) → LacksStop written → rest ≡ written ++ (codes "\"}" ++ after)
    → IsSteps steps → rest ≡ steps_text steps ++ (codes "\"}" ++ more) → written ≡ steps_text steps
steps_there written rest more steps after lacks cut_at are same =
    (one_end written (steps_text steps) after more lacks (plain_steps steps are) (sym cut_at ∙ same)).0
