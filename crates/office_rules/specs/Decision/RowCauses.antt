-- Why a row of an import is refused, as it is printed.
use Rattle.std.specs.Prelude.{◌++◌, codes, decimal}
use Rattle.sts_fields.specs.Text.{Text}
use Rattle.office_rules.specs.declared.decision.row_cause.RowCause.{RowCause}
use Rattle.office_rules.specs.declared.decision.row_cause.RowCause.TheVariants.{Header, Columns}
use Rattle.office_rules.specs.declared.decision.row_cause.RowCause.TheVariants.{Field, TooManyRows}
use Rattle.office_rules.specs.declared.decision.row_cause.RowCause.TheVariants.{Differs, NoTariff}
use Rattle.office_rules.specs.declared.decision.row_cause.RowCause.TheVariants.{DayPast}

-- a field is told by its number
abbrev pub cause_text : RowCause → Text
cause_text Header = codes "Header"
cause_text Columns = codes "Columns"
cause_text (Field number) = codes "Field " ++ decimal number
cause_text TooManyRows = codes "TooManyRows"
cause_text Differs = codes "Differs"
cause_text NoTariff = codes "NoTariff"
cause_text DayPast = codes "DayPast"
