-- What is printed of an audit.
use Rattle.std.specs.Prelude.{◌≡◌, ◌⊎◌, List, [], ◌∷◌, ◌++◌, codes, decimal}
use Rattle.std.specs.Fmt.{signed_decimal}
use Rattle.sqlite_value.specs.Order.{column}
use Rattle.sqlite_value.specs.declared.value.Value.{Value}
use Rattle.sqlite_value.specs.declared.value.Value.TheVariants.{Int, Text as IsText}
use Rattle.audit_rows.specs.Tables.{name_of}
use Rattle.audit.specs.declared.audited.Audited.{Audited}
use Rattle.audit.specs.declared.following.Part.{Part}
use Rattle.audit.specs.declared.following.Part.TheVariants as part
use Rattle.audit_rows.specs.declared.finding.Finding.{Finding}
use Rattle.audit_rows.specs.declared.finding.RowKey.{RowKey}
use Rattle.audit_rows.specs.declared.finding.RowKey.TheVariants.{Number, Tariff, Step, DatedStep}
use Rattle.audit_rows.specs.declared.finding.RowKey.TheVariants.{Meter, Base, Month, Columns}
use Rattle.audit_rows.specs.declared.finding.Rule.{Rule}
use Rattle.audit_rows.specs.declared.finding.Rule.TheVariants as rule
use Rattle.sts_fields.specs.Base.{year_of}
use Rattle.sts_fields.specs.Text.{Text}
use Rattle.office_rules.specs.Name.{IsName}
use Rattle.vend_ports.specs.print.Printed.{line_of}

-- the file stands for an office: of this format, with so many of each
abbrev pub sound_line : Audited → Text
sound_line a = line_of (codes "sound" ∷ codes "format" ∷ decimal a.format
    ∷ codes "tariffs" ∷ decimal a.tariffs ∷ codes "meters" ∷ decimal a.meters
    ∷ codes "shifts" ∷ decimal a.shifts ∷ codes "sales" ∷ decimal a.sales ∷ [])

-- the file has none of the office's tables
abbrev pub no_office_line : Text
no_office_line = line_of (codes "no" ∷ codes "office" ∷ [])

-- the part of an audit that has passed, in a word: each row by itself, the rows together and the
-- totals, and the requests that may have led to them
abbrev pub part_text : Part → Text
part_text part.Rows = codes "rows"
part_text part.Ties = codes "rules"
part_text part.Requests = codes "requests"

abbrev pub passed_line : Part → Text
passed_line passed = line_of (part_text passed ∷ [])

-- the rule that a row breaks, in a word
abbrev pub rule_text : Rule → Text
rule_text rule.Value = codes "value"
rule_text rule.Gap = codes "gap"
rule_text rule.Month = codes "month"
rule_text rule.TwoOpen = codes "open"
rule_text rule.Steps = codes "steps"
rule_text rule.Base = codes "base"
rule_text rule.Twice = codes "twice"
rule_text rule.Missing = codes "missing"
rule_text rule.Surplus = codes "surplus"
rule_text rule.Total = codes "total"
rule_text rule.Operator = codes "operator"
rule_text rule.Order = codes "order"
rule_text rule.Identifier = codes "identifier"
rule_text rule.Price = codes "price"
rule_text rule.Token = codes "token"

-- a value is told where it is a number, or a text of 1 to 32 letters, digits or hyphens
abbrev pub TellsValue : Value → (told : Text) → Type 0
TellsValue (Int number) told = told ≡ signed_decimal number
TellsValue (IsText text) told =
    (IsName text × (told ≡ text)) ⊎ ((¬ IsName text) × (told ≡ codes "?"))
TellsValue value told = told ≡ codes "?"

-- a row is told by its key, as the columns of the table have it; one whose values are of no record
-- by its first column
abbrev pub TellsRow : RowKey → (told : List Text) → Type 0
TellsRow (Number n) told = told ≡ decimal n ∷ []
TellsRow (Tariff name) told = told ≡ name ∷ []
TellsRow (Step tariff place) told = told ≡ tariff ∷ decimal place ∷ []
TellsRow (DatedStep tariff day place) told = told ≡ tariff ∷ decimal day ∷ decimal place ∷ []
TellsRow (Meter number) told = told ≡ number ∷ []
TellsRow (Base meter base) told = told ≡ meter ∷ decimal (year_of base) ∷ []
TellsRow (Month meter month) told = told ≡ meter ∷ decimal month ∷ []
TellsRow (Columns row) told = (word : Text) × (told ≡ word ∷ []) × TellsValue (column row 0) word

-- this row of a table breaks a rule
abbrev pub broken_line : Finding → (row : List Text) → Text
broken_line f row =
    line_of (codes "broken" ∷ name_of f.table ∷ (row ++ (rule_text f.rule ∷ [])))
