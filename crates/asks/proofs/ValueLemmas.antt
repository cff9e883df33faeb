-- The texts of values: each is that of one value of its kind, and its bytes are letters, digits or hyphens.
use Rattle.std.proofs.Common.{◌≡◌, ◌≢◌, ◌∙◌, ◌⊎◌, inl, inr, Option, None, Some, true≢false, ℕ, ◌+◌, ◌*◌, ◌/◌, ◌%◌, ◌^◌, ◌<◌, ◌≤◌, ◌==◌, Bool, true, false, List, [], ◌∷◌, ◌++◌, length, get_or, decimal, refl, ap, sym, subst, arith}
use Rattle.std.specs.Char.{is_ascii_alphanumeric, is_ascii_digit}
use Rattle.std.specs.List.{AllByRecursion, AllPass}
use Rattle.std.proofs.lemmas.Bool.Decides.{nat_tests}
use Rattle.std.proofs.lemmas.Fmt.{decimal_injective, decimal_is_IsNumeral, decimal_nonempty}
use Rattle.std.proofs.lemmas.List.Elements.{All-from_get_or, recursion_from_All}
use Rattle.std.proofs.lemmas.Str.Parse.{digit_at}
use Rattle.sts_fields.specs.Base.{year_of}
use Rattle.sts_fields.specs.Calendar.{IsCivil, IsWithinRanges, civil_at}
use Rattle.sts_fields.specs.Day.{HasDate, IsDay, IsDayText, day_at, iso_date, two_digits}
use Rattle.sts_fields.specs.Moment.{IsMoment, first_moment}
use Rattle.sts_fields.specs.declared.base.Base.{Base as BaseDate}
use Rattle.sts_fields.specs.declared.base.Base.TheVariants.{Y1993, Y2014, Y2035}
use Rattle.sts_fields.specs.declared.calendar.date_time.Civil.{Civil}
use Rattle.sts_token.specs.Digits.{digits_text}
use Rattle.sts_token.specs.Key.{AreKeyDigits, IsKeyText, is_lower_hexdigit}
use Rattle.sts_token.proofs.KeyLemmas.{key_within, one_key_text, written_key}
use Rattle.office_rules.specs.Name.{IsMeterNo, IsName, IsOperator, is_name_byte}
use Rattle.records.specs.Cell as cells
use Rattle.records.specs.Front.{IsFound}
use Rattle.asks.specs.Value.{DaysAreRead, IsToldBy, Keeps, StandsIn, bare_text, beginning, day_text, kind_of, text_of}
use Rattle.asks.specs.declared.value.Value.{Value}
use Rattle.asks.specs.declared.value.Value.TheVariants.{Base, Day, Key, Meter, Number, Operator, Ref, Start, Tariff, Tender}
use Rattle.asks.specs.declared.value.ValueKind.{ValueKind}
use Rattle.asks.specs.declared.value.ValueKind.TheVariants as kinds

-- ---- days

-- a day is that of the moment at which it begins, and its text reads as it
pub day-reads : ((secs : ℕ) → IsMoment secs → IsCivil secs (civil_at secs))
    → ((secs : ℕ) (c : Civil) → IsMoment secs → IsCivil secs c → HasDate (day_at secs) c.year c.month c.day)
    → ((secs : ℕ) → IsMoment secs → (first_moment + day_at secs * 86400 ≤ secs) × (secs < first_moment + (day_at secs + 1) * 86400))
    → (day : ℕ) → IsDay day → IsDayText (day_text day) day
day-reads civil shown whole day is =
    let secs = beginning day in
    let moment : IsMoment secs = (omega arith, omega (arith, is)) in
    let around = whole secs moment in
    let same : day_at secs ≡ day = omega (arith, around.0, around.1) in
    let c = civil_at secs in record {
      range = is;
      year = c.year;
      month = c.month;
      date = c.day;
      dated = subst (λ d. HasDate d c.year c.month c.day) same (shown secs c moment (civil secs moment));
      written = refl;
    }

-- what a clock shows as a day begins
pub day-shown : ((secs : ℕ) → IsMoment secs → IsCivil secs (civil_at secs))
    → ((secs : ℕ) (c : Civil) → IsMoment secs → IsCivil secs c → IsWithinRanges c)
    → (day : ℕ) → IsDay day → IsWithinRanges (civil_at (beginning day))
day-shown civil ranges day is =
    let secs = beginning day in
    let moment : IsMoment secs = (omega arith, omega (arith, is)) in
    ranges secs (civil_at secs) moment (civil secs moment)

-- ---- one value for a text

one_base : (b c : BaseDate) → decimal (year_of b) ≡ decimal (year_of c) → b ≡ c
one_base Y1993 Y1993 e = refl
one_base Y2014 Y2014 e = refl
one_base Y2035 Y2035 e = refl
one_base b c e =
    let years : year_of b ≡ year_of c = decimal_injective (year_of b) (year_of c) (omega arith) (omega arith) e in
    absurd (omega (arith, years))

one_number : (m n : ℕ) → m ≤ 1000000000 → n ≤ 1000000000 → decimal m ≡ decimal n → m ≡ n
one_number m n small less e = decimal_injective m n (omega (arith, small)) (omega (arith, less)) e

one_date : DaysAreRead → (d e : ℕ) → IsDay d → IsDay e → day_text d ≡ day_text e → d ≡ e
one_date days d e is are same = days.one_day d e (day_text e) (subst (λ text. IsDayText text d) same (days.reads d is)) (days.reads e are)

one_key : (j k : ℕ) → j < 2 ^ 64 → k < 2 ^ 64 → digits_text 16 16 j ≡ digits_text 16 16 k → j ≡ k
one_key j k small less e =
    let read = subst (λ text. IsKeyText j text) e (written_key j small) in
    sym read.number ∙ (written_key k less).number

-- two values of a kind have two texts
pub one_value : DaysAreRead → (v w : Value) → kind_of v ≡ kind_of w → Keeps v → Keeps w → text_of v ≡ text_of w → v ≡ w
one_value days (Base b) (Base c) same is are e = ap Base (one_base b c e)
one_value days (Day d) (Day f) same is are e = ap Day (one_date days d f is are e)
one_value days (Key j) (Key k) same is are e = ap Key (one_key j k is are e)
one_value days (Meter m) (Meter n) same is are e = ap Meter e
one_value days (Number m) (Number n) same is are e = ap Number (one_number m n is.most are.most e)
one_value days (Operator o) (Operator p) same is are e = ap Operator e
one_value days (Ref r) (Ref s) same is are e = ap Ref e
one_value days (Start m) (Start n) same is are e = ap Start (one_number m n is.most are.most e)
one_value days (Tariff t) (Tariff u) same is are e = ap Tariff e
one_value days (Tender t) (Tender u) same is are e = ap Tender (one_number t u (omega (arith, is.1)) (omega (arith, are.1)) e)
one_value days v w same is are e = cc

-- ---- bytes

of_digit : (b : ℕ) → is_ascii_digit b ≡ true → is_name_byte b ≡ true
of_digit b e = grind (arith, nat_tests)

of_letter : (b : ℕ) → is_ascii_alphanumeric b ≡ true → is_name_byte b ≡ true
of_letter b e = grind (arith, nat_tests)

of_hexdigit : (b : ℕ) → is_lower_hexdigit b ≡ true → is_name_byte b ≡ true
of_hexdigit b e = grind (arith, nat_tests)

is_digit : (b : ℕ) → 48 ≤ b → b ≤ 57 → is_name_byte b ≡ true
is_digit b low high = grind (arith, nat_tests)

-- a text of letters, digits and hyphens
abbrev pub IsWord : List ℕ → Type 0
IsWord text = AllByRecursion (λ b. is_name_byte b ≡ true) text

word_by : (test : ℕ → Bool) → ((b : ℕ) → test b ≡ true → is_name_byte b ≡ true) → (text : List ℕ) → AllPass test text → IsWord text
word_by test is text passes = recursion_from_All (λ b. is_name_byte b ≡ true) text (λ i d inside. is _ (passes i d inside))

number_word : (n : ℕ) → n ≤ 1000000000 → IsWord (decimal n)
number_word n h =
    recursion_from_All (λ b. is_name_byte b ≡ true) (decimal n) (All-from_get_or (λ b. is_name_byte b ≡ true) (decimal n) 0 (λ i inside.
    let digit = digit_at (decimal n) i (decimal_is_IsNumeral n (omega (arith, h))).0.1 inside in
    is_digit (get_or (decimal n) i 0) digit.0 digit.1))

-- the year of a base date is small
pub small_year : (b : BaseDate) → year_of b ≤ 1000000000
small_year Y1993 = omega arith
small_year Y2014 = omega arith
small_year Y2035 = omega arith

base_word : (b : BaseDate) → IsWord (decimal (year_of b))
base_word Y1993 = number_word 1993 (omega arith)
base_word Y2014 = number_word 2014 (omega arith)
base_word Y2035 = number_word 2035 (omega arith)

two_word : (n : ℕ) (text : List ℕ) → n < 100 → IsWord text → IsWord (two_digits n ++ text)
two_word n text small all =
    (is_digit (48 + n / 10) (omega arith) (omega (arith, small)), (is_digit (48 + n % 10) (omega arith) (omega arith), all))

date_word : (year month date : ℕ) → year < 10000 → month < 100 → date < 100 → IsWord (iso_date year month date)
unfolding iso_date
date_word year month date y m d =
    let last = two_word date [] d tt in
    let months = two_word month (45 ∷ two_digits date) m (refl, last) in
    let years = two_word (year % 100) (45 ∷ (two_digits month ++ 45 ∷ two_digits date)) (omega arith) (refl, months) in
    two_word (year / 100) (two_digits (year % 100) ++ 45 ∷ (two_digits month ++ 45 ∷ two_digits date)) (omega (arith, y)) years

day_word : DaysAreRead → (day : ℕ) → IsDay day → IsWord (day_text day)
day_word days day is =
    let shown = days.shown day is in
    date_word _ _ _ (omega (arith, shown.year.1)) (omega (arith, shown.month.1)) (omega (arith, shown.day.1))

-- the text of a value is a word
pub value_word : DaysAreRead → (v : Value) → Keeps v → IsWord (text_of v)
value_word days (Base b) is = base_word b
value_word days (Day d) is = day_word days d is
value_word days (Key k) is = word_by is_lower_hexdigit of_hexdigit (digits_text 16 16 k) (written_key k is).digits.digits
value_word days (Meter m) is = word_by is_ascii_digit of_digit m is.digits
value_word days (Number n) is = number_word n is.most
value_word days (Operator o) is = word_by is_ascii_alphanumeric of_letter o is.bytes
value_word days (Ref r) is = word_by is_name_byte (λ b e. e) r is.bytes
value_word days (Start n) is = number_word n is.most
value_word days (Tariff t) is = word_by is_name_byte (λ b e. e) t is.bytes
value_word days (Tender t) is = number_word t (omega (arith, is.1))

some_digits : (n : ℕ) → n ≤ 1000000000 → decimal n ≢ []
some_digits n h e = absurd (omega (arith, decimal_nonempty n (omega (arith, h)), ap length e))

date_some : (year month date : ℕ) → iso_date year month date ≢ []
unfolding iso_date
date_some year month date e = cc

-- and not empty
pub value_some : (v : Value) → Keeps v → text_of v ≢ []
value_some (Base Y1993) is e = some_digits 1993 (omega arith) e
value_some (Base Y2014) is e = some_digits 2014 (omega arith) e
value_some (Base Y2035) is e = some_digits 2035 (omega arith) e
value_some (Day d) is e = date_some _ _ _ e
value_some (Key k) is e = absurd (omega (arith, (written_key k is).digits.sixteen, ap length e))
value_some (Meter m) is e = absurd (omega (arith, is.eleven, ap length e))
value_some (Number n) is e = some_digits n is.most e
value_some (Operator o) is e = absurd (omega (arith, is.some, ap length e))
value_some (Ref r) is e = absurd (omega (arith, is.some, ap length e))
value_some (Start n) is e = some_digits n is.most e
value_some (Tariff t) is e = absurd (omega (arith, is.some, ap length e))
value_some (Tender t) is e = some_digits t (omega (arith, is.1)) e

-- ---- what a text tells

-- a text that is no day's tells none
pub not_day : DaysAreRead → (kind : ValueKind) (bytes : List ℕ) → kind ≡ kinds.Day → ((day : ℕ) → ¬ IsDayText bytes day)
    → (v : Value) → ¬ IsToldBy kind (cells.text bytes) v
not_day days kind bytes is none (Day d) told =
    let same : day_text d ≡ bytes = cc (told.told) in
    none d (subst (λ (t : List ℕ). IsDayText t d) same (days.reads d told.is_of.kept))
not_day days kind bytes is none v told = let of_kind = told.is_of.of_kind in absurd cc

-- nor one that is no key's a key
pub not_key : (kind : ValueKind) (bytes : List ℕ) → kind ≡ kinds.Key → ¬ AreKeyDigits bytes → (v : Value) → ¬ IsToldBy kind (cells.text bytes) v
not_key kind bytes is none (Key k) told =
    let same : digits_text 16 16 k ≡ bytes = cc (told.told) in
    none (subst AreKeyDigits same (written_key k told.is_of.kept).digits)
not_key kind bytes is none v told = let of_kind = told.is_of.of_kind in absurd cc

-- the day that a text is
pub told_day : DaysAreRead → (kind : ValueKind) (bytes : List ℕ) (day : ℕ) → kind ≡ kinds.Day → IsDayText bytes day → IsToldBy kind (cells.text bytes) (Day day)
told_day days kind bytes day is read = record {
  is_of = record { of_kind = sym is; kept = read.range };
  told = ap cells.text (days.one_text day (day_text day) bytes (days.reads day read.range) read);
}

-- the key that a text is
pub told_key : (kind : ValueKind) (bytes : List ℕ) (key : ℕ) → kind ≡ kinds.Key → IsKeyText key bytes → IsToldBy kind (cells.text bytes) (Key key)
told_key kind bytes key is read =
    let less = key_within key bytes read in record {
      is_of = record { of_kind = sym is; kept = less };
      told = ap cells.text (one_key_text key (digits_text 16 16 key) bytes (written_key key less) read);
    }

-- the kinds of numbers
abbrev pub numbered : ValueKind → Bool
numbered kinds.Base = true
numbered kinds.Number = true
numbered kinds.Start = true
numbered kinds.Tender = true
numbered kind = false

number_none : (kind : ValueKind) (piece : List ℕ) (n : ℕ) → numbered kind ≡ true → n < 2 ^ 64 → piece ≡ decimal n
    → ((v : Value) → ¬ IsToldBy kind (cells.number n) v) → (v : Value) → ¬ StandsIn kind piece v
number_none kind piece n e less is none (Base b) s =
    none (Base b) (record { is_of = s.is_of; told = ap cells.number (decimal_injective (year_of b) n (omega (arith, small_year b)) less (s.told ∙ is)) })
number_none kind piece n e less is none (Number m) s =
    none (Number m) (record { is_of = s.is_of; told = ap cells.number (decimal_injective m n (omega (arith, s.is_of.kept.most)) less (s.told ∙ is)) })
number_none kind piece n e less is none (Start m) s =
    none (Start m) (record { is_of = s.is_of; told = ap cells.number (decimal_injective m n (omega (arith, s.is_of.kept.most)) less (s.told ∙ is)) })
number_none kind piece n e less is none (Tender m) s =
    none (Tender m) (record { is_of = s.is_of; told = ap cells.number (decimal_injective m n (omega (arith, s.is_of.kept.1)) less (s.told ∙ is)) })
number_none kind piece n e less is none v s = absurd (true≢false (sym e ∙ sym (ap numbered s.is_of.of_kind)))

-- the value that stands in the digits of a number, as the number tells it
pub number_piece : (kind : ValueKind) (piece : List ℕ) (n : ℕ) (r : Option Value)
    → ((kind ≡ kinds.Base) ⊎ ((kind ≡ kinds.Number) ⊎ ((kind ≡ kinds.Start) ⊎ (kind ≡ kinds.Tender)))) → n < 2 ^ 64 → piece ≡ decimal n
    → IsFound (IsToldBy kind (cells.number n)) r → IsFound (StandsIn kind piece) r
number_piece kind piece n (Some v) is less e told = record { is_of = told.is_of; told = ap bare_text told.told ∙ sym e }
number_piece kind piece n None is less e none = number_none kind piece n (of_number is) less e none
  where
    of_number : ((kind ≡ kinds.Base) ⊎ ((kind ≡ kinds.Number) ⊎ ((kind ≡ kinds.Start) ⊎ (kind ≡ kinds.Tender)))) → numbered kind ≡ true
    of_number (inl p) = ap numbered p
    of_number (inr (inl p)) = ap numbered p
    of_number (inr (inr (inl p))) = ap numbered p
    of_number (inr (inr (inr p))) = ap numbered p
