-- Why the office refuses a request: the numbers, names and categories of the refusals.
use Rattle.std.specs.Prelude.{◌≢◌, ℕ, codes}
use Rattle.sts_fields.specs.Text.{Text}
use Rattle.office_rules.specs.declared.decision.category.Category.{Category}
use Rattle.office_rules.specs.declared.decision.category.Category.TheVariants.{Missing, Forbidden}
use Rattle.office_rules.specs.declared.decision.category.Category.TheVariants.{Unfit, UnfitRow}
use Rattle.office_rules.specs.declared.decision.category.Category.TheVariants.{Unable}
use Rattle.office_rules.specs.declared.decision.refusal.Refusal.{Refusal}
use Rattle.office_rules.specs.declared.decision.row_cause.RowCause.{RowCause}
use Rattle.office_rules.specs.declared.decision.refusal.Refusal.TheVariants.{RefReused, NoShift}
use Rattle.office_rules.specs.declared.decision.refusal.Refusal.TheVariants.{ShiftOpen, NoMeter}
use Rattle.office_rules.specs.declared.decision.refusal.Refusal.TheVariants.{NoTariff, Differs}
use Rattle.office_rules.specs.declared.decision.refusal.Refusal.TheVariants.{BeforeBase}
use Rattle.office_rules.specs.declared.decision.refusal.Refusal.TheVariants.{IdentifiersSpent}
use Rattle.office_rules.specs.declared.decision.refusal.Refusal.TheVariants.{IdentifierAhead}
use Rattle.office_rules.specs.declared.decision.refusal.Refusal.TheVariants.{TooLittle, OfficeFull}
use Rattle.office_rules.specs.declared.decision.refusal.Refusal.TheVariants.{NoSale, NoSuchShift}
use Rattle.office_rules.specs.declared.decision.refusal.Refusal.TheVariants.{ImportRow, Memory}
use Rattle.office_rules.specs.declared.decision.refusal.Refusal.TheVariants.{Store, Stopped}
use Rattle.office_rules.specs.declared.decision.refusal.Refusal.TheVariants.{NotLater, DayPast}
use Rattle.office_rules.specs.declared.decision.refusal.Refusal.TheVariants.{HasSales}

-- the number that a user meets
abbrev pub refusal_number : Refusal → ℕ
refusal_number RefReused = 1
refusal_number NoShift = 2
refusal_number ShiftOpen = 3
refusal_number NoMeter = 4
refusal_number NoTariff = 5
refusal_number Differs = 6
refusal_number BeforeBase = 7
refusal_number IdentifiersSpent = 8
refusal_number IdentifierAhead = 9
refusal_number TooLittle = 10
refusal_number OfficeFull = 11
refusal_number NoSale = 12
refusal_number NoSuchShift = 13
refusal_number (ImportRow row cause) = 14
refusal_number Memory = 15
refusal_number Store = 16
refusal_number Stopped = 17
refusal_number NotLater = 18
refusal_number DayPast = 19
refusal_number HasSales = 20

-- the name that a user meets
abbrev pub refusal_name : Refusal → Text
refusal_name RefReused = codes "RefReused"
refusal_name NoShift = codes "NoShift"
refusal_name ShiftOpen = codes "ShiftOpen"
refusal_name NoMeter = codes "NoMeter"
refusal_name NoTariff = codes "NoTariff"
refusal_name Differs = codes "Differs"
refusal_name BeforeBase = codes "BeforeBase"
refusal_name IdentifiersSpent = codes "IdentifiersSpent"
refusal_name IdentifierAhead = codes "IdentifierAhead"
refusal_name TooLittle = codes "TooLittle"
refusal_name OfficeFull = codes "OfficeFull"
refusal_name NoSale = codes "NoSale"
refusal_name NoSuchShift = codes "NoSuchShift"
refusal_name (ImportRow row cause) = codes "ImportRow"
refusal_name Memory = codes "Memory"
refusal_name Store = codes "Store"
refusal_name Stopped = codes "Stopped"
refusal_name NotLater = codes "NotLater"
refusal_name DayPast = codes "DayPast"
refusal_name HasSales = codes "HasSales"

-- what kind of reason it has: something is not there, the office forbids it as it stands, it cannot
-- be done as it was asked, or the office is unable to answer
abbrev pub refusal_category : Refusal → Category
refusal_category RefReused = Forbidden
refusal_category NoShift = Forbidden
refusal_category ShiftOpen = Forbidden
refusal_category NoMeter = Missing
refusal_category NoTariff = Missing
refusal_category Differs = Forbidden
refusal_category BeforeBase = Forbidden
refusal_category IdentifiersSpent = Forbidden
refusal_category IdentifierAhead = Forbidden
refusal_category TooLittle = Unfit
refusal_category OfficeFull = Forbidden
refusal_category NoSale = Missing
refusal_category NoSuchShift = Missing
refusal_category (ImportRow row cause) = UnfitRow row cause
refusal_category Memory = Unable
refusal_category Store = Unable
refusal_category Stopped = Unable
refusal_category NotLater = Forbidden
refusal_category DayPast = Forbidden
refusal_category HasSales = Forbidden

-- the refusal of no row
abbrev pub IsOfNoRow : Refusal → Type 0
IsOfNoRow refusal = (row : ℕ) (cause : RowCause) → refusal ≢ ImportRow row cause
