-- The records that a desk replies with: the names of their fields in the order of their bytes, and
-- their cells.
use Rattle.std.specs.Prelude.{ℕ, ◌-◌, Bool, true, false, List, [], ◌∷◌, codes, Option, Some, None}
use Rattle.records.specs.Cell.{Held, number, text, nothing}
use Rattle.records.specs.Record.{record_text}
use Rattle.book_tables.specs.row.Rows.{present_format}
use Rattle.book_tables.specs.declared.row.totals.Totals.{Totals}
use Rattle.book_states.specs.declared.lookup.Health.{Health}
use Rattle.book_states.specs.declared.lookup.ListedMeter.{ListedMeter}
use Rattle.book_states.specs.declared.lookup.ListedShift.{ListedShift}
use Rattle.book_states.specs.declared.lookup.MeterSummary.{MeterSummary}
use Rattle.book_states.specs.declared.lookup.Quote.{Quote}
use Rattle.papers.specs.Text.{change_of}
use Rattle.sts_fields.specs.Base.{year_of}
use Rattle.office_rules.specs.declared.office.sale.Sale.{Sale}

-- a whole number, or that there is none
abbrev pub some_number : Option ℕ → Held
some_number (Some n) = number n
some_number None = nothing

-- one number under a name
abbrev pub count_text : List ℕ → ℕ → List ℕ
count_text name count = record_text (name ∷ []) (number count ∷ [])

-- a fault of the desk is told by its word
abbrev pub fault_text : List ℕ → List ℕ
fault_text word = record_text (codes "error" ∷ []) (text word ∷ [])

-- a refusal of the office by its name and number
abbrev pub refusal_names : List (List ℕ)
refusal_names = codes "error" ∷ codes "refusal" ∷ []

abbrev pub refusal_cells : List ℕ → ℕ → List Held
refusal_cells name own = text name ∷ number own ∷ []

-- and that of a row by the cause and the row too
abbrev pub row_names : List (List ℕ)
row_names = codes "cause" ∷ codes "error" ∷ codes "refusal" ∷ codes "row" ∷ []

abbrev pub row_cells : List ℕ → ℕ → ℕ → List ℕ → List Held
row_cells name own row cause = text cause ∷ text name ∷ number own ∷ number row ∷ []

-- a sale, without the nibble of its token
abbrev pub sale_names : List (List ℕ)
sale_names =
    codes "base" ∷ codes "change" ∷ codes "meter" ∷ codes "moment" ∷ codes "number"
    ∷ codes "operator" ∷ codes "price" ∷ codes "ref" ∷ codes "shift" ∷ codes "tender"
    ∷ codes "tenths" ∷ codes "tid" ∷ codes "token" ∷ []

abbrev pub sale_cells : Sale → List Held
sale_cells s =
    number (year_of s.base) ∷ number (change_of s) ∷ text s.meter ∷ number s.moment
    ∷ number s.number ∷ text s.operator ∷ number s.price ∷ text s.order_ref ∷ number s.shift
    ∷ number s.tender ∷ number s.tenths ∷ number s.tid ∷ text s.digits ∷ []

abbrev pub sale_text : Sale → List ℕ
sale_text s = record_text sale_names (sale_cells s)

-- what became of the last change that was to be written
abbrev pub last_write : (failed : Bool) → List ℕ
last_write true = codes "failed"
last_write false = codes "done"

-- that the office answers: the format of its file, the moment of its last sale, what became of its
-- last change, and how many sales there are
abbrev pub health_names : List (List ℕ)
health_names =
    codes "format" ∷ codes "last_moment" ∷ codes "last_write" ∷ codes "sales" ∷ []

abbrev pub health_cells : Health → List Held
health_cells h =
    number present_format ∷ some_number h.last_moment ∷ text (last_write h.write_failed)
    ∷ number h.sales ∷ []

abbrev pub health_text : Health → List ℕ
health_text h = record_text health_names (health_cells h)

-- a meter, without its key: the year of its base date, its number, the number of the last sale to
-- it, its tariff, and the tenths that were sold to it in the month
abbrev pub meter_names : List (List ℕ)
meter_names =
    codes "base" ∷ codes "meter" ∷ codes "sale" ∷ codes "tariff" ∷ codes "tenths" ∷ []

abbrev pub meter_cells : MeterSummary → List Held
meter_cells m =
    number (year_of m.base) ∷ text m.number ∷ some_number m.last_sale ∷ text m.tariff
    ∷ number m.tenths ∷ []

abbrev pub meter_text : MeterSummary → List ℕ
meter_text m = record_text meter_names (meter_cells m)

-- what a tender would buy, and what would be given back of it
abbrev pub quote_names : List (List ℕ)
quote_names =
    codes "change" ∷ codes "meter" ∷ codes "price" ∷ codes "tariff" ∷ codes "tender"
    ∷ codes "tenths" ∷ []

abbrev pub quote_cells : Quote → List Held
quote_cells q =
    number (q.tender - q.price) ∷ text q.meter ∷ number q.price ∷ text q.tariff
    ∷ number q.tender ∷ number q.tenths ∷ []

abbrev pub quote_text : Quote → List ℕ
quote_text q = record_text quote_names (quote_cells q)

-- the running totals of the shift of a number
abbrev pub totals_names : List (List ℕ)
totals_names = codes "cash" ∷ codes "sales" ∷ codes "shift" ∷ codes "tenths" ∷ []

abbrev pub totals_cells : ℕ → Totals → List Held
totals_cells shift totals =
    number totals.cash ∷ number totals.sales ∷ number shift ∷ number totals.tenths ∷ []

abbrev pub totals_text : ℕ → Totals → List ℕ
totals_text shift totals = record_text totals_names (totals_cells shift totals)

-- a meter of a list, without its key
abbrev pub listed_meter_names : List (List ℕ)
listed_meter_names = codes "base" ∷ codes "meter" ∷ codes "tariff" ∷ []

abbrev pub listed_meter_cells : ListedMeter → List Held
listed_meter_cells m = number (year_of m.base) ∷ text m.number ∷ text m.tariff ∷ []

abbrev pub listed_meter_text : ListedMeter → List ℕ
listed_meter_text m = record_text listed_meter_names (listed_meter_cells m)

-- a shift of a list with its totals; while it is open, no moment stands for its end
abbrev pub listed_shift_names : List (List ℕ)
listed_shift_names =
    codes "cash" ∷ codes "closed" ∷ codes "number" ∷ codes "opened" ∷ codes "operator"
    ∷ codes "sales" ∷ codes "tenths" ∷ []

abbrev pub listed_shift_cells : ListedShift → List Held
listed_shift_cells l =
    number l.totals.cash ∷ some_number l.shift.closed ∷ number l.shift.number
    ∷ number l.shift.opened ∷ text l.shift.operator ∷ number l.totals.sales
    ∷ number l.totals.tenths ∷ []

abbrev pub listed_shift_text : ListedShift → List ℕ
listed_shift_text l = record_text listed_shift_names (listed_shift_cells l)
