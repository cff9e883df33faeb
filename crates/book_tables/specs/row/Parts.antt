-- The parts that a sale's row is read in.
use Rattle.std.specs.Prelude.{◌<◌, ◌+◌, ◌^◌, ℕ, Bool, true, false, [], ◌∷◌}
use Rattle.sqlite.specs.Order.{Row, column}
use Rattle.sqlite.specs.declared.types.Value.TheVariants.{Text}
use Rattle.sts_fields.specs.Base.{year_of}
use Rattle.sts_token.specs.Token.{AreTwentyDigits}
use Rattle.sts_fields.specs.Moment.{IsMoment}
use Rattle.office_rules.specs.declared.decision.request.Order.{Order}
use Rattle.book_tables.specs.row.Rows.{number}
use Rattle.book_tables.specs.row.Values.{IsNumber, IsSoldAmount, IsTid}
use Rattle.book_tables.specs.declared.row.office_records.Entry.{Entry}
use Rattle.book_tables.specs.declared.row.office_records.Token.{Token}

abbrev pub shown_entry : Entry → Row
shown_entry e = number e.number ∷ number e.moment ∷ number e.shift ∷ []

abbrev pub shown_order : Order → Row
shown_order order =
    Text order.operator ∷ Text order.order_ref ∷ Text order.meter ∷ number order.tender ∷ []

abbrev pub shown_token : Token → Row
shown_token t =
    number (year_of t.base) ∷ number t.tid ∷ number t.rnd ∷ number t.tenths ∷ Text t.digits ∷ []

pub record AreEntryValues (e : Entry) : Type 0 where
  pub number : IsNumber e.number
  pub moment : IsMoment e.moment
  pub shift : IsNumber e.shift

pub record AreTokenValues (t : Token) : Type 0 where
  pub tid : IsTid t.tid
  pub rnd : t.rnd < 2 ^ 4
  pub tenths : IsSoldAmount t.tenths
  pub digits : AreTwentyDigits t.digits

-- how many columns stand between a sale's moment and its shift: that of the month, where the row
-- has one
abbrev pub month_columns_in : (has_month : Bool) → ℕ
month_columns_in true = 1
month_columns_in false = 0

-- the columns of each part in the row of a sale, with so many behind the moment
abbrev pub entry_columns : ℕ → Row → Row
entry_columns on r = column r 0 ∷ column r 1 ∷ column r (2 + on) ∷ []

abbrev pub order_columns : ℕ → Row → Row
order_columns on r =
    column r (3 + on) ∷ column r (4 + on) ∷ column r (5 + on) ∷ column r (11 + on) ∷ []

abbrev pub token_columns : ℕ → Row → Row
token_columns on r =
    column r (6 + on) ∷ column r (7 + on) ∷ column r (8 + on) ∷ column r (9 + on)
    ∷ column r (12 + on) ∷ []

-- the columns of a sale, before whatever else the row has
abbrev pub sale_part : ℕ → Row → Row
sale_part on r =
    column r 0 ∷ column r 1 ∷ column r (2 + on) ∷ column r (3 + on) ∷ column r (4 + on)
    ∷ column r (5 + on) ∷ column r (6 + on) ∷ column r (7 + on) ∷ column r (8 + on)
    ∷ column r (9 + on) ∷ column r (10 + on) ∷ column r (11 + on) ∷ column r (12 + on) ∷ []
