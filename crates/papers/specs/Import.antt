-- What a file of rows reads as: its rows, or the first fault.
use Rattle.std.specs.Prelude.{◌≡◌, ◌≢◌, ℕ, ◌+◌, ◌<◌, ◌≤◌, ⊤, List, [], ◌∷◌, length, slice_get, Some}
use Rattle.std.specs.Prelude.{Result, Ok, Err}
use Rattle.papers.specs.File.{Fields, IsFirstOutside, KeepsRuleAt, RecordSays, header_of, kind_of}
use Rattle.papers.specs.declared.file_form.FileForm.{FileForm}
use Rattle.papers.specs.declared.file_form.FileForm.TheVariants.{Meters, Tariffs, DatedTariffs}
use Rattle.papers.specs.declared.file_kind.FileKind.{FileKind}
use Rattle.papers.specs.declared.row_fault.RowFault.{RowFault}
use Rattle.papers.specs.declared.row_fault.RowFault.TheVariants.{At, Memory}
use Rattle.office_rules.specs.Office.Rows.{greatest_rows}
use Rattle.office_rules.specs.declared.office.row.Row.{Row}
use Rattle.office_rules.specs.declared.decision.row_cause.RowCause.{RowCause}
use Rattle.office_rules.specs.declared.decision.row_cause.RowCause.TheVariants.{Header, Columns}
use Rattle.office_rules.specs.declared.decision.row_cause.RowCause.TheVariants.{Field, TooManyRows}
use Rattle.office_rules.specs.declared.decision.row_cause.RowCause.TheVariants.{Differs, NoTariff}
use Rattle.office_rules.specs.declared.decision.row_cause.RowCause.TheVariants.{DayPast}

-- a file of a kind has a form: the record that stands first is the header of that form
pub record HasForm (kind : FileKind) (records : List Fields) (form : FileForm) : Type 0 where
  pub of_kind : kind_of form ≡ kind
  pub headed : slice_get records 0 ≡ Some (header_of form)

-- each record says the row at its place
unfoldable pub AreSaid : FileForm → List Fields → List Row → Type 0
AreSaid form [] [] = ⊤
AreSaid form [] (row ∷ rows) = ⊥
AreSaid form (fields ∷ records) [] = ⊥
AreSaid form (fields ∷ records) (row ∷ rows) =
    RecordSays form fields row × AreSaid form records rows

-- the rows of a file in a form, at most 10000: its records are the header, and then one that says
-- each row
pub record AreRowsIn (form : FileForm) (records : List Fields) (rows : List Row) : Type 0 where
  pub body : List Fields
  pub headed : records ≡ header_of form ∷ body
  pub said : AreSaid form body rows
  pub few : length rows ≤ greatest_rows

-- the rows of a file of a kind, in the form that its header tells
abbrev pub AreRows : FileKind → List Fields → List Row → Type 0
AreRows kind records rows = (form : FileForm) × (kind_of form ≡ kind) × AreRowsIn form records rows

-- the row of a number has these fields; rows count from 1 on, behind the header
pub record IsRowAt (records : List Fields) (number : ℕ) (fields : Fields) : Type 0 where
  pub from_one : 1 ≤ number
  pub few : number ≤ greatest_rows
  pub there : slice_get records number ≡ Some fields

-- why a record says no row: it has another number of fields than the header, or else a first field
-- outside its rule
abbrev pub HasCause : FileForm → Fields → RowCause → Type 0
HasCause form fields Header = ⊥
HasCause form fields Columns = length fields ≢ length (header_of form)
HasCause form fields (Field k) =
    (length fields ≡ length (header_of form)) × IsFirstOutside form fields k
HasCause form fields TooManyRows = ⊥
HasCause form fields Differs = ⊥
HasCause form fields NoTariff = ⊥
HasCause form fields DayPast = ⊥

-- how many fields of a record are looked at before memory is taken for its row: all, but for the
-- first day of steps
abbrev pub looked_at : FileForm → ℕ
looked_at Meters = 4
looked_at Tariffs = 2
looked_at DatedTariffs = 2

-- a record for which memory is taken: it has as many fields as the header, and those that were
-- looked at by then keep their rules
pub record TakesRoom (form : FileForm) (fields : Fields) : Type 0 where
  pub count : length fields ≡ length (header_of form)
  pub good : (place : ℕ) → place < looked_at form → KeepsRuleAt form fields place

-- the fault that a row with these fields has; want of memory comes only where memory is taken
abbrev pub IsRowFault : FileForm → Fields → ℕ → RowFault → Type 0
IsRowFault form fields number (At row cause) = (row ≡ number) × HasCause form fields cause
IsRowFault form fields number Memory = TakesRoom form fields

-- the record of a row says none in the form that the file has, for this cause
abbrev pub IsNoRow : FileKind → List Fields → ℕ → RowCause → Type 0
IsNoRow kind records number cause =
    (form : FileForm) × HasForm kind records form
    × (fields : Fields) × IsRowAt records number fields × HasCause form fields cause

-- the fault that a file has at a number: at 0 it has no header of its kind, from 1 to 10000 a
-- record that says no row, and at 10001 a record too many, whatever it holds
abbrev pub FileHasFault : FileKind → List Fields → ℕ → RowCause → Type 0
FileHasFault kind records number Header =
    (number ≡ 0) × ((form : FileForm) → ¬ HasForm kind records form)
FileHasFault kind records number Columns = IsNoRow kind records number Columns
FileHasFault kind records number (Field k) = IsNoRow kind records number (Field k)
FileHasFault kind records number TooManyRows =
    (number ≡ greatest_rows + 1) × (number < length records)
FileHasFault kind records number Differs = ⊥
FileHasFault kind records number NoTariff = ⊥
FileHasFault kind records number DayPast = ⊥

-- the file has the fault there, and none before it
pub record IsFirstFault (kind : FileKind) (records : List Fields) (number : ℕ) (cause : RowCause)
    : Type 0 where
  pub here : FileHasFault kind records number cause
  pub before : (earlier : ℕ) (other : RowCause) → earlier < number
      → ¬ FileHasFault kind records earlier other

-- the fault that a reader answers for these records; each record takes room while it is read, so
-- want of memory comes of any file but one without a record
abbrev pub IsFault : FileKind → List Fields → RowFault → Type 0
IsFault kind records (At number cause) = IsFirstFault kind records number cause
IsFault kind records Memory = 0 < length records

-- what reading these records answers: the rows, or the first fault
abbrev pub IsReading : FileKind → List Fields → Result (List Row) RowFault → Type 0
IsReading kind records (Ok rows) = AreRows kind records rows
IsReading kind records (Err fault) = IsFault kind records fault
