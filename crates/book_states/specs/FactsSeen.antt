-- What a request has seen of a database that has the office's tables, whatever their rows are: each
-- of its facts is what the rows of an answer show, so there are none where one of these shows none.
use Rattle.std.specs.Prelude.{◌≡◌, ◌≢◌, ◌⊎◌, ℕ, Bool, true, List, [], ◌∷◌, Option, Some, None}
use Rattle.std.specs.Prelude.{IsNone, IsSome, Err, is_some, unwrap_or}
use Rattle.sqlite.specs.Effect.{Database}
use Rattle.sts_fields.specs.Calendar.{month_at}
use Rattle.sts_fields.specs.Day.{day_at}
use Rattle.tariff.specs.declared.step.Step.{Step}
use Rattle.office_rules.specs.Decision.{MeterAccount, row_decision}
use Rattle.office_rules.specs.Decision.Facts.{has_other_key, row_facts}
use Rattle.office_rules.specs.Office.{Office}
use Rattle.office_rules.specs.declared.decision.facts.Facts.{Facts}
use Rattle.office_rules.specs.declared.decision.refusal.Refusal.TheVariants.{Differs}
use Rattle.office_rules.specs.declared.decision.request.Order.{Order}
use Rattle.office_rules.specs.declared.decision.request.Request.{Request}
use Rattle.office_rules.specs.declared.decision.request.Request.TheVariants.{AddTariff, AddSteps}
use Rattle.office_rules.specs.declared.decision.request.Request.TheVariants.{AddMeter, Import}
use Rattle.office_rules.specs.declared.decision.request.Request.TheVariants.{SetTariff, MoveBase}
use Rattle.office_rules.specs.declared.decision.request.Request.TheVariants.{OpenShift, CloseShift}
use Rattle.office_rules.specs.declared.decision.request.Request.TheVariants.{Sell, Reprint}
use Rattle.office_rules.specs.declared.decision.request.Request.TheVariants.{ShiftReport, SetKey}
use Rattle.office_rules.specs.declared.decision.request.Request.TheVariants.{WithdrawSteps}
use Rattle.office_rules.specs.declared.decision.request.Stamped.{Stamped}
use Rattle.office_rules.specs.declared.decision.row_facts.RowFacts.{RowFacts}
use Rattle.office_rules.specs.declared.decision.row_facts.RowFacts.TheVariants as found
use Rattle.office_rules.specs.declared.office.meter.Meter.{Meter}
use Rattle.office_rules.specs.declared.office.row.Row.{Row}
use Rattle.office_rules.specs.declared.office.row.Row.TheVariants as kinds
use Rattle.office_rules.specs.declared.office.sale.Sale.{Sale}
use Rattle.office_rules.specs.declared.office.shift.Shift.{Shift}
use Rattle.book_tables.specs.reading.Questions.{the_last_id, the_last_id_of, the_last_shift}
use Rattle.book_tables.specs.reading.Questions.{the_meter, the_month_tenths, the_open_shift}
use Rattle.book_tables.specs.reading.Questions.{the_sale, the_sale_of_ref, the_sale_since}
use Rattle.book_tables.specs.reading.Questions.{the_sales_of_shift, the_shift}
use Rattle.book_tables.specs.reading.Questions.{the_steps, the_steps_from, the_tariff}
use Rattle.book_tables.specs.reading.Seen.{AreLatestSeen, AreStepsSeen, ShowsAll, ShowsFirst}
use Rattle.book_tables.specs.reading.Seen.{ShowsMade}

-- whether there is a tariff of the name
abbrev pub IsTariffSeen : List ℕ → Database → Bool → Type 0
IsTariffSeen name db has_tariff = ShowsMade (the_tariff name) is_some db has_tariff

-- what is found at the first place, and at the second only where nothing is at the first
pub record OrElse {X : Type 0} (First Second : Option X → Type 0) (found : Option X) : Type 0 where
  pub at_first : Option X
  pub first : First at_first
  pub some : IsSome at_first → found ≡ at_first
  pub none : IsNone at_first → Second found

-- the steps of a tariff on a day: the latest that have begun by then, else the first
abbrev pub AreStepsSeenOn : List ℕ → ℕ → Database → Option (List Step) → Type 0
AreStepsSeenOn name day db steps =
    OrElse (AreLatestSeen name day db) (AreStepsSeen (the_steps name) db) steps

-- AddMeter looks at no tariff where the meter stands
pub record AreMeterFactsSeen (number : List ℕ) (m : Meter) (db : Database) (f : Facts) : Type 0
  where
    pub meter : ShowsFirst (the_meter number) db f.meter
    pub has_tariff : IsNone f.meter → IsTariffSeen m.tariff db f.has_tariff

-- SetTariff looks at the tariff only where the meter stands
pub record AreSettingFactsSeen (number name : List ℕ) (db : Database) (f : Facts) : Type 0 where
  pub meter : ShowsFirst (the_meter number) db f.meter
  pub has_tariff : IsSome f.meter → IsTariffSeen name db f.has_tariff

-- AddSteps looks at the steps of the day only where the tariff stands
pub record AreDatedFactsSeen (name : List ℕ) (day : ℕ) (db : Database) (f : Facts) : Type 0 where
  pub has_tariff : IsTariffSeen name db f.has_tariff
  pub dated_steps : f.has_tariff ≡ true → AreStepsSeen (the_steps_from name day) db f.dated_steps

-- WithdrawSteps looks at the steps of the day only where the tariff stands, and at the sales since
-- that day only where there are such steps
pub record AreWithdrawalFactsSeen (name : List ℕ) (day : ℕ) (db : Database) (f : Facts) : Type 0
  where
    pub has_tariff : IsTariffSeen name db f.has_tariff
    pub dated_steps : f.has_tariff ≡ true
        → AreStepsSeen (the_steps_from name day) db f.dated_steps
    pub sold_since : f.has_tariff ≡ true → IsSome f.dated_steps
        → ShowsMade (the_sale_since day) is_some db f.sold_since

-- SetKey looks at the sales to the meter only where it stands and has another key
pub record AreKeyFactsSeen (number : List ℕ) (key : ℕ) (db : Database) (f : Facts) : Type 0 where
  pub meter : ShowsFirst (the_meter number) db f.meter
  pub has_sales : has_other_key key f.meter ≡ true
      → ShowsMade (the_last_id_of number) is_some db f.has_sales

-- OpenShift counts the shifts only where the operator has no open one: the last number counts them
pub record AreOpeningFactsSeen (operator : List ℕ) (db : Database) (f : Facts) : Type 0 where
  pub open_shift : ShowsFirst (the_open_shift operator) db f.open_shift
  pub shift_count : IsNone f.open_shift
      → ShowsMade the_last_shift (λ last. unwrap_or last 0) db f.shift_count

-- what was sold so far to a meter, as a sale at a moment looks at it
pub record IsSoldSeen (number : List ℕ) (moment : ℕ) (db : Database) (account : MeterAccount)
    : Type 0 where
  pub last : ShowsFirst (the_last_id number account.meter.base) db account.last
  pub prior : ShowsMade (the_month_tenths number (month_at moment)) (λ sum. unwrap_or sum 0) db
      account.prior

-- what a sale at a moment looks at of a meter: all of it only where there is the meter
abbrev pub IsAccountSeen : List ℕ → ℕ → Database → Option MeterAccount → Type 0
IsAccountSeen number moment db None = ShowsFirst (the_meter number) db None
IsAccountSeen number moment db (Some account) =
    ShowsFirst (the_meter number) db (Some account.meter)
    × AreStepsSeenOn account.meter.tariff (day_at moment) db (Some account.steps)
    × IsSoldSeen number moment db account

-- An order looks at the sale under its ref; where there is none, at the operator's open shift; and
-- where one is open, at the meter. There are so many sales, as the caller knows.
pub record AreSaleFactsSeen (count moment : ℕ) (order : Order) (db : Database) (f : Facts) : Type 0
  where
    pub first_sale : ShowsFirst (the_sale_of_ref order.operator order.order_ref) db f.first_sale
    pub open_shift : IsNone f.first_sale
        → ShowsFirst (the_open_shift order.operator) db f.open_shift
    pub account : IsNone f.first_sale → IsSome f.open_shift
        → IsAccountSeen order.meter moment db f.account
    pub sale_count : IsNone f.first_sale → IsSome f.open_shift → IsSome f.account
        → f.sale_count ≡ count

-- ShiftReport looks at the sales only where there is a shift of the number
abbrev pub IsReportSeen : ℕ → Database → Option (Shift × List Sale) → Type 0
IsReportSeen number db None = ShowsFirst (the_shift number) db None
IsReportSeen number db (Some report) =
    ShowsFirst (the_shift number) db (Some report.0)
    × ShowsAll (the_sales_of_shift number) db report.1

-- ---- an import

-- what is under a row's name: a meter's tariff is looked at only where there is no meter
abbrev pub IsRowSeen : Row → Database → RowFacts → Type 0
IsRowSeen (kinds.Tariff name steps) db (found.Tariff there) = AreStepsSeen (the_steps name) db there
IsRowSeen (kinds.Steps name day steps) db (found.Steps has_tariff there) =
    IsTariffSeen name db has_tariff × AreStepsSeen (the_steps_from name day) db there
IsRowSeen (kinds.Meter number m) db (found.Meter there) =
    ShowsFirst (the_meter number) db (Some there)
IsRowSeen (kinds.Meter number m) db (found.NoMeter has_tariff) =
    ShowsFirst (the_meter number) db None × IsTariffSeen m.tariff db has_tariff
IsRowSeen row db f = ⊥

-- something else is under the row's name: an office that has this there refuses the row for it
abbrev pub IsRefusedFor : Row → RowFacts → Type 0
IsRefusedFor row f =
    (o : Office) (today : ℕ) → f ≡ row_facts o row → row_decision o today row ≡ Err Differs

-- nothing else is: no such office refuses the row for it
abbrev pub IsPassedBy : Row → RowFacts → Type 0
IsPassedBy row f =
    (o : Office) (today : ℕ) → f ≡ row_facts o row → row_decision o today row ≢ Err Differs

-- what is under the name of each row, up to the first row that differs from it: nothing is looked
-- at after that
abbrev pub AreRowsSeen : List Row → Database → List RowFacts → Type 0
AreRowsSeen [] db fs = fs ≡ []
AreRowsSeen (row ∷ rest) db [] = ⊥
AreRowsSeen (row ∷ rest) db (f ∷ fs) =
    IsRowSeen row db f
    × ((IsRefusedFor row f × (fs ≡ [])) ⊎ (IsPassedBy row f × AreRowsSeen rest db fs))

-- ---- what a request looks at, where there are so many sales

abbrev pub AreFactsSeenOf : ℕ → ℕ → Request → Database → Facts → Type 0
AreFactsSeenOf count moment (AddTariff name steps) db f = AreStepsSeen (the_steps name) db f.tariff
AreFactsSeenOf count moment (AddSteps name day steps) db f = AreDatedFactsSeen name day db f
AreFactsSeenOf count moment (WithdrawSteps name day) db f = AreWithdrawalFactsSeen name day db f
AreFactsSeenOf count moment (AddMeter number m) db f = AreMeterFactsSeen number m db f
AreFactsSeenOf count moment (Import rows) db f =
    (fs : List RowFacts) × (f.rows ≡ Some fs) × AreRowsSeen rows db fs
AreFactsSeenOf count moment (SetTariff number name) db f = AreSettingFactsSeen number name db f
AreFactsSeenOf count moment (MoveBase number base) db f = ShowsFirst (the_meter number) db f.meter
AreFactsSeenOf count moment (SetKey number key) db f = AreKeyFactsSeen number key db f
AreFactsSeenOf count moment (OpenShift operator) db f = AreOpeningFactsSeen operator db f
AreFactsSeenOf count moment (CloseShift operator) db f =
    ShowsFirst (the_open_shift operator) db f.open_shift
AreFactsSeenOf count moment (Sell order) db f = AreSaleFactsSeen count moment order db f
AreFactsSeenOf count moment (Reprint number) db f = ShowsFirst (the_sale number) db f.sale
AreFactsSeenOf count moment (ShiftReport number) db f = IsReportSeen number db f.report

abbrev pub AreFactsSeen : ℕ → Stamped → Database → Facts → Type 0
AreFactsSeen count at db f = AreFactsSeenOf count at.moment at.request db f
