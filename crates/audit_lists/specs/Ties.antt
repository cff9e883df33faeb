-- Rules that tie the rows of a list to one another, or to those of other lists: what each row
-- keeps, and the first one that does not.
use Rattle.std.specs.Prelude.{◌≡◌, ◌⊎◌, ◌+◌, ◌<◌, ⊤, ℕ, List, [], ◌∷◌, Some, slice_get}
use Rattle.office_rules.specs.Office.{greatest_count}
use Rattle.audit_rows.specs.declared.finding.Finding.{Finding}
use Rattle.audit_rows.specs.declared.finding.RowKey.{RowKey}
use Rattle.audit_rows.specs.declared.finding.RowKey.TheVariants.{Number}
use Rattle.audit_rows.specs.declared.finding.Rule.{Rule}
use Rattle.audit_rows.specs.declared.finding.Rule.TheVariants as rule
use Rattle.audit_rows.specs.declared.table_name.TableName.{TableName}
use Rattle.audit_lists.specs.Keys.{HasKey, IsNew, Key}
use Rattle.audit_lists.specs.declared.fault.OfficeFault.{OfficeFault}
use Rattle.audit_lists.specs.declared.fault.OfficeFault.TheVariants as fault

-- what is said of each of the first rows and its place, and of each row of a list
abbrev pub EachBelow : {T : Type 0} → (ℕ → T → Type 0) → List T → ℕ → Type 0
EachBelow {T} said rows n = (i : ℕ) (row : T) → i < n → slice_get rows i ≡ Some row → said i row

abbrev pub Each : {T : Type 0} → (ℕ → T → Type 0) → List T → Type 0
Each {T} said rows = (i : ℕ) (row : T) → slice_get rows i ≡ Some row → said i row

-- the row at a place is the first of which it does not hold
pub record IsFirstBut {T : Type 0} (said : ℕ → T → Type 0) (rows : List T) (place : ℕ) (row : T)
    : Type 0 where
  pub there : slice_get rows place ≡ Some row
  pub before : EachBelow said rows place
  pub breaks : ¬ said place row

-- ---- one rule

-- the rows of a table's list, and the key by which a finding names one
pub record Listed (T : Type 0) : Type 0 where
  pub table : TableName
  pub key : T → RowKey
  pub rows : List T

abbrev pub listed : {T : Type 0} → TableName → (T → RowKey) → List T → Listed T
listed table key rows = record { table = table; key = key; rows = rows }

-- a rule of a list: what each row keeps at its place, from 0, and how a finding names one there
pub record Tie : Type 1 where
  pub Row : Type 0
  pub rows : List Row
  pub Keeps : ℕ → Row → Type 0
  pub finding : ℕ → Row → Finding

abbrev pub IsTieKept : Tie → Type 0
IsTieKept tie = Each tie.Keeps tie.rows

-- the finding is of the first row that does not keep it
abbrev pub IsFirst : Tie → Finding → Type 0
IsFirst tie f =
    (place : ℕ) × (row : tie.Row) × IsFirstBut tie.Keeps tie.rows place row
    × (f ≡ tie.finding place row)

abbrev pub found : TableName → Rule → RowKey → Finding
found table rule row = record { table = table; rule = rule; row = row }

-- each row keeps this
abbrev pub each : {T : Type 0} → Listed T → Rule → (T → Type 0) → Tie
each {T} list rule said = record {
  Row = T;
  rows = list.rows;
  Keeps = λ _ row. said row;
  finding = λ _ row. found list.table rule (list.key row);
}

-- no two rows have one key
abbrev pub once : {T : Type 0} → Listed T → Rule → (T → Key) → Tie
once {T} list rule key = record {
  Row = T;
  rows = list.rows;
  Keeps = IsNew key list.rows;
  finding = λ _ row. found list.table rule (list.key row);
}

-- each row names one of the others
abbrev pub names : {T U : Type 0} → Listed T → Rule → (T → Key) → (U → Key) → List U → Tie
names list rule name key others = each list rule (λ row. HasKey key others (name row))

-- the rows are numbered 1, 2, 3 and on: a finding names the number that is not there
abbrev pub numbered : {T : Type 0} → Listed T → (T → ℕ) → Tie
numbered {T} list number = record {
  Row = T;
  rows = list.rows;
  Keeps = λ i row. number row ≡ i + 1;
  finding = λ i _. found list.table rule.Gap (Number (i + 1));
}

-- there are no more rows than an office holds: a finding names the first of the others by its place
abbrev pub few : {T : Type 0} → Listed T → Tie
few {T} list = record {
  Row = T;
  rows = list.rows;
  Keeps = λ i _. i < greatest_count;
  finding = λ i _. found list.table rule.Surplus (Number (i + 1));
}

-- ---- rules in their order

-- all of them are kept
abbrev pub AreKept : List Tie → Type 0
AreKept [] = ⊤
AreKept (tie ∷ more) = IsTieKept tie × AreKept more

-- the finding is of the first row that does not keep the first of them that is not kept
abbrev pub FindsFirst : List Tie → Finding → Type 0
FindsFirst [] f = ⊥
FindsFirst (tie ∷ more) f = IsFirst tie f ⊎ (IsTieKept tie × FindsFirst more f)

-- what is said of a finding, where there was memory
abbrev pub Says : (Finding → Type 0) → OfficeFault → Type 0
Says said (fault.Found f) = said f
Says said fault.Memory = ⊤
