-- Files of meters and of tariffs: their records, and what a record says.
use Rattle.std.specs.Prelude.{◌≡◌, ◌⊎◌, ◌==◌, ◌||◌, Bool, ℕ, zero, suc, ◌-◌, ◌<◌, ◌≤◌, List, []}
use Rattle.std.specs.Prelude.{◌∷◌, length, slice_index_or, codes, decimal}
use Rattle.csv.specs.Machine.{carriage_return, line_feed}
use Rattle.csv.specs.Reading.{AreRecords, default_config, strip_bom}
use Rattle.csv.specs.declared.parser.State.TheVariants.{StartRecord}
use Rattle.papers.specs.declared.file_form.FileForm.{FileForm}
use Rattle.papers.specs.declared.file_form.FileForm.TheVariants.{Meters, Tariffs, DatedTariffs}
use Rattle.papers.specs.declared.file_kind.FileKind.{FileKind}
use Rattle.papers.specs.declared.file_kind.FileKind.TheVariants as kinds
use Rattle.sts_fields.specs.Base.{year_of}
use Rattle.sts_fields.specs.declared.base.Base.{Base}
use Rattle.sts_fields.specs.Day.{IsDayText}
use Rattle.sts_token.specs.Key.{AreKeyDigits, IsKeyText}
use Rattle.tariff.specs.Steps.{IsSteps}
use Rattle.tariff.specs.StepsText.{IsStepsText}
use Rattle.tariff.specs.declared.step.Step.{Step}
use Rattle.office_rules.specs.Name.{IsMeterNo, IsName}
use Rattle.office_rules.specs.declared.office.meter.Meter as declared
use Rattle.office_rules.specs.declared.office.row.Row.{Row}
use Rattle.office_rules.specs.declared.office.row.Row.TheVariants.{Tariff, Meter, Steps}

-- a record: its fields in order
abbrev pub Fields : Type 0
Fields = List (List ℕ)

-- the records of a file: those that CSV has in its bytes, without a byte order mark in front
abbrev pub AreFileRecords : List ℕ → List Fields → Type 0
AreFileRecords bytes records = AreRecords default_config StartRecord (strip_bom bytes) records

-- a byte that ends a line
abbrev pub is_line_end : ℕ → Bool
is_line_end byte = (byte == carriage_return) || (byte == line_feed)

-- the kind of file that a form is one of
abbrev pub kind_of : FileForm → FileKind
kind_of Meters = kinds.Meters
kind_of Tariffs = kinds.Tariffs
kind_of DatedTariffs = kinds.Tariffs

-- the record that stands first, and names the fields
abbrev pub header_of : FileForm → Fields
header_of Meters = codes "meter" ∷ codes "base" ∷ codes "tariff" ∷ codes "key" ∷ []
header_of Tariffs = codes "name" ∷ codes "steps" ∷ []
header_of DatedTariffs = codes "name" ∷ codes "steps" ∷ codes "from" ∷ []

-- the year of a base date
abbrev pub base_text : Base → List ℕ
base_text base = decimal (year_of base)

abbrev pub IsBaseText : List ℕ → Type 0
IsBaseText text = (base : Base) × (text ≡ base_text base)

-- the text of the steps of a tariff
abbrev pub IsTariffText : List ℕ → Type 0
IsTariffText text = (steps : List Step) × IsStepsText text steps × IsSteps steps

-- the first day of steps, or nothing for the steps that a tariff begins with
abbrev pub IsFromText : List ℕ → Type 0
IsFromText text = (text ≡ []) ⊎ ((day : ℕ) × IsDayText text day)

-- the rule of a field, by its place from 0 on
abbrev pub KeepsRule : FileForm → ℕ → List ℕ → Type 0
KeepsRule Meters zero text = IsMeterNo text
KeepsRule Meters (suc zero) text = IsBaseText text
KeepsRule Meters (suc (suc zero)) text = IsName text
KeepsRule Meters (suc (suc (suc _))) text = AreKeyDigits text
KeepsRule Tariffs zero text = IsName text
KeepsRule Tariffs (suc _) text = IsTariffText text
KeepsRule DatedTariffs zero text = IsName text
KeepsRule DatedTariffs (suc zero) text = IsTariffText text
KeepsRule DatedTariffs (suc (suc _)) text = IsFromText text

-- the field at a place of a record keeps its rule
abbrev pub KeepsRuleAt : FileForm → Fields → ℕ → Type 0
KeepsRuleAt form fields place = KeepsRule form place (slice_index_or fields place [])

-- the field of a number, from 1 on, is the first that does not keep its rule
pub record IsFirstOutside (form : FileForm) (fields : Fields) (number : ℕ) : Type 0 where
  pub from_one : 1 ≤ number
  pub within : number ≤ length fields
  pub outside : ¬ KeepsRuleAt form fields (number - 1)
  pub before : (place : ℕ) → place < number - 1 → KeepsRuleAt form fields place

-- a record says a meter: its number, the year of its base date, the name of its tariff and its key
pub record RecordSaysMeter (fields : Fields) (number : List ℕ) (m : declared.Meter) : Type 0 where
  pub key_text : List ℕ
  pub four : fields ≡ number ∷ base_text m.base ∷ m.tariff ∷ key_text ∷ []
  pub numbered : IsMeterNo number
  pub named : IsName m.tariff
  pub keyed : IsKeyText m.key key_text

-- a record says a tariff: its name, the text of its steps, and then these fields
pub record RecordSaysTariff (fields rest : Fields) (name : List ℕ) (steps : List Step)
    : Type 0 where
  pub steps_text : List ℕ
  pub are : fields ≡ name ∷ steps_text ∷ rest
  pub named : IsName name
  pub written : IsStepsText steps_text steps
  pub priced : IsSteps steps

-- a record says the steps of a tariff from a day on
abbrev pub RecordSaysSteps : Fields → List ℕ → ℕ → List Step → Type 0
RecordSaysSteps fields name day steps =
    (from : List ℕ) × IsDayText from day × RecordSaysTariff fields (from ∷ []) name steps

-- a record of a file says this row; where steps may have a first day, none makes them the tariff's
-- first ones
abbrev pub RecordSays : FileForm → Fields → Row → Type 0
RecordSays Meters fields (Meter number m) = RecordSaysMeter fields number m
RecordSays Meters fields (Tariff name steps) = ⊥
RecordSays Meters fields (Steps name day steps) = ⊥
RecordSays Tariffs fields (Meter number m) = ⊥
RecordSays Tariffs fields (Tariff name steps) = RecordSaysTariff fields [] name steps
RecordSays Tariffs fields (Steps name day steps) = ⊥
RecordSays DatedTariffs fields (Meter number m) = ⊥
RecordSays DatedTariffs fields (Tariff name steps) = RecordSaysTariff fields ([] ∷ []) name steps
RecordSays DatedTariffs fields (Steps name day steps) = RecordSaysSteps fields name day steps
