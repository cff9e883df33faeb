-- The values of asks: their kinds, their rules, and how they are told in the cells of records.
use Rattle.std.specs.Prelude.{◌≡◌, ℕ, ◌+◌, ◌*◌, ◌^◌, ◌<◌, ◌≤◌, List, [], ◌∷◌, ⊤, decimal}
use Rattle.papers.specs.Text.{date_text}
use Rattle.sts_fields.specs.Base.{year_of}
use Rattle.sts_fields.specs.Calendar.{IsWithinRanges, civil_at}
use Rattle.sts_fields.specs.Day.{IsDay, IsDayText}
use Rattle.sts_fields.specs.Moment.{UnixSeconds, first_moment}
use Rattle.sts_token.specs.Digits.{digits_text}
use Rattle.tariff.specs.Tender.{IsTender}
use Rattle.office_rules.specs.Name.{IsMeterNo, IsName, IsOperator}
use Rattle.records.specs.Cell.{Held, number, text, nothing}
use Rattle.asks.specs.declared.value.Value.{Value}
use Rattle.asks.specs.declared.value.Value.TheVariants.{Base, Day, Key, Meter, Number, Operator}
use Rattle.asks.specs.declared.value.Value.TheVariants.{Ref, Start, Tariff, Tender}
use Rattle.asks.specs.declared.value.ValueKind.{ValueKind}
use Rattle.asks.specs.declared.value.ValueKind.TheVariants as kinds

-- a number of a shift or a sale
pub record IsTargetNumber (number : ℕ) : Type 0 where
  pub from_one : 1 ≤ number
  pub most : number ≤ 1000000000

-- a number after which a page begins; nothing has the number 0
pub record IsPageStart (number : ℕ) : Type 0 where
  pub most : number ≤ 1000000000

-- the moment at which a day begins
abbrev pub beginning : ℕ → UnixSeconds
beginning day = first_moment + day * 86400

-- the date of a day as YYYY-MM-DD: the one that a clock shows as the day begins
abbrev pub day_text : ℕ → List ℕ
day_text day = date_text (civil_at (beginning day))

abbrev pub kind_of : Value → ValueKind
kind_of (Base base) = kinds.Base
kind_of (Day day) = kinds.Day
kind_of (Key key) = kinds.Key
kind_of (Meter meter) = kinds.Meter
kind_of (Number n) = kinds.Number
kind_of (Operator operator) = kinds.Operator
kind_of (Ref order_ref) = kinds.Ref
kind_of (Start n) = kinds.Start
kind_of (Tariff name) = kinds.Tariff
kind_of (Tender cents) = kinds.Tender

-- a value by the rule of its kind
abbrev pub Keeps : Value → Type 0
Keeps (Base base) = ⊤
Keeps (Day day) = IsDay day
Keeps (Key key) = key < 2 ^ 64
Keeps (Meter meter) = IsMeterNo meter
Keeps (Number n) = IsTargetNumber n
Keeps (Operator operator) = IsOperator operator
Keeps (Ref order_ref) = IsName order_ref
Keeps (Start n) = IsPageStart n
Keeps (Tariff name) = IsName name
Keeps (Tender cents) = IsTender cents

-- the cell of a value: a base date is told by its year, a key in sixteen hexadecimal digits, and a
-- tender in cents
abbrev pub cell_of : Value → Held
cell_of (Base base) = number (year_of base)
cell_of (Day day) = text (day_text day)
cell_of (Key key) = text (digits_text 16 16 key)
cell_of (Meter meter) = text meter
cell_of (Number n) = number n
cell_of (Operator operator) = text operator
cell_of (Ref order_ref) = text order_ref
cell_of (Start n) = number n
cell_of (Tariff name) = text name
cell_of (Tender cents) = number cents

-- what a cell holds, without quotation marks
abbrev pub bare_text : Held → List ℕ
bare_text (number n) = decimal n
bare_text (text bytes) = bytes
bare_text nothing = []

-- the text of a value in a target
abbrev pub text_of : Value → List ℕ
text_of value = bare_text (cell_of value)

-- the value is of the kind, and keeps its rule
pub record IsOf (kind : ValueKind) (value : Value) : Type 0 where
  pub of_kind : kind_of value ≡ kind
  pub kept : Keeps value

-- each value is of the kind at its place, and there are as many
abbrev pub AreOf : List ValueKind → List Value → Type 0
AreOf [] [] = ⊤
AreOf (kind ∷ kinds) (value ∷ values) = IsOf kind value × AreOf kinds values
AreOf kinds values = ⊥

-- the value of a kind that a cell tells
pub record IsToldBy (kind : ValueKind) (cell : Held) (value : Value) : Type 0 where
  pub is_of : IsOf kind value
  pub told : cell_of value ≡ cell

-- the value of a kind that stands in a target
pub record StandsIn (kind : ValueKind) (piece : List ℕ) (value : Value) : Type 0 where
  pub is_of : IsOf kind value
  pub told : text_of value ≡ piece

-- what is known of days: each is read of its text and of no other, and what a clock shows as it
-- begins
pub record DaysAreRead : Type 0 where
  pub reads : (day : ℕ) → IsDay day → IsDayText (day_text day) day
  pub one_text : (day : ℕ) (text other : List ℕ) → IsDayText text day → IsDayText other day
      → text ≡ other
  pub one_day : (day other : ℕ) (text : List ℕ) → IsDayText text day → IsDayText text other
      → day ≡ other
  pub shown : (day : ℕ) → IsDay day → IsWithinRanges (civil_at (beginning day))
