-- The causes of refusals of rows that replies tell.
use Rattle.std.specs.Prelude.{◌^◌, ◌<◌, ℕ, ⊤}
use Rattle.office_rules.specs.declared.decision.row_cause.RowCause.{RowCause}
use Rattle.office_rules.specs.declared.decision.row_cause.RowCause.TheVariants.{Header, Columns}
use Rattle.office_rules.specs.declared.decision.row_cause.RowCause.TheVariants.{Field, TooManyRows}
use Rattle.office_rules.specs.declared.decision.row_cause.RowCause.TheVariants.{Differs, NoTariff}
use Rattle.office_rules.specs.declared.decision.row_cause.RowCause.TheVariants.{DayPast}

-- the cause tells no field
abbrev pub IsWord : RowCause → Type 0
IsWord Header = ⊤
IsWord Columns = ⊤
IsWord (Field number) = ⊥
IsWord TooManyRows = ⊤
IsWord Differs = ⊤
IsWord NoTariff = ⊤
IsWord DayPast = ⊤

-- the number of a field that it tells has 8 bits
abbrev pub IsCause : RowCause → Type 0
IsCause Header = ⊤
IsCause Columns = ⊤
IsCause (Field number) = number < 2 ^ 8
IsCause TooManyRows = ⊤
IsCause Differs = ⊤
IsCause NoTariff = ⊤
IsCause DayPast = ⊤

-- a row's number has 32 bits
abbrev pub IsRowCause : ℕ → RowCause → Type 0
IsRowCause row cause = (row < 2 ^ 32) × IsCause cause
