-- What stops a request at a database that has the office's tables: a row of an answer to one of the
-- questions that it asks shows no record. A later question counts only where what the earlier ones
-- showed lets the request ask it.
use Rattle.std.specs.Prelude.{◌≡◌, ◌⊎◌, ◌<◌, ℕ, true, List, [], ◌∷◌, Option, None, Some}
use Rattle.std.specs.Prelude.{unwrap_or}
use Rattle.sqlite.specs.Effect.{Database}
use Rattle.sts_fields.specs.Calendar.{month_at}
use Rattle.sts_fields.specs.Day.{day_at}
use Rattle.sts_fields.specs.Tid.{last_tid}
use Rattle.sts_fields.specs.declared.base.Base.{Base}
use Rattle.tariff.specs.Cost.{greatest_prior}
use Rattle.tariff.specs.declared.step.Step.{Step}
use Rattle.office_rules.specs.Decision.Facts.{has_other_key}
use Rattle.office_rules.specs.declared.decision.request.Order.{Order}
use Rattle.office_rules.specs.declared.decision.request.Request.{Request}
use Rattle.office_rules.specs.declared.decision.request.Request.TheVariants.{AddTariff, AddSteps}
use Rattle.office_rules.specs.declared.decision.request.Request.TheVariants.{AddMeter, Import}
use Rattle.office_rules.specs.declared.decision.request.Request.TheVariants.{SetTariff, MoveBase}
use Rattle.office_rules.specs.declared.decision.request.Request.TheVariants.{OpenShift, CloseShift}
use Rattle.office_rules.specs.declared.decision.request.Request.TheVariants.{Sell, Reprint}
use Rattle.office_rules.specs.declared.decision.request.Request.TheVariants.{ShiftReport, SetKey}
use Rattle.office_rules.specs.declared.decision.request.Request.TheVariants.{WithdrawSteps}
use Rattle.office_rules.specs.declared.decision.request.Stamped.{Stamped}
use Rattle.office_rules.specs.declared.decision.row_facts.RowFacts.{RowFacts}
use Rattle.office_rules.specs.declared.office.meter.Meter.{Meter}
use Rattle.office_rules.specs.declared.office.row.Row.{Row}
use Rattle.office_rules.specs.declared.office.row.Row.TheVariants as kinds
use Rattle.book_tables.specs.reading.Questions.{Question, the_last_id, the_last_id_of}
use Rattle.book_tables.specs.reading.Questions.{the_last_shift, the_meter, the_month_tenths}
use Rattle.book_tables.specs.reading.Questions.{the_open_shift, the_sale, the_sale_of_ref}
use Rattle.book_tables.specs.reading.Questions.{the_sale_since, the_sales_of_shift, the_shift}
use Rattle.book_tables.specs.reading.Questions.{the_steps, the_steps_from, the_tariff}
use Rattle.book_tables.specs.reading.Seen.{AreLatestSeen, AreStepsSeen, HasSpoilt}
use Rattle.book_tables.specs.reading.Seen.{HasSpoiltLatest, HasSpoiltSteps, ShowsFirst, ShowsMade}
use Rattle.book_states.specs.FactsSeen.{AreStepsSeenOn, IsPassedBy, IsRowSeen, IsTariffSeen}

-- the question's answer is spoilt; or it shows no record, and so this is asked, and is spoilt
abbrev pub SpoiltElse : {M : Type 0} → Question M → (Database → Type 0) → Database → Type 0
SpoiltElse q IsSpoilt db = HasSpoilt q db ⊎ (ShowsFirst q db None × IsSpoilt db)

-- the question's answer is spoilt; or it shows a record, and so this is asked of it, and is spoilt
abbrev pub SpoiltThen : {M : Type 0} → Question M → (M → Database → Type 0) → Database → Type 0
SpoiltThen {M} q IsSpoilt db =
    HasSpoilt q db ⊎ ((x : M) × ShowsFirst q db (Some x) × IsSpoilt x db)

-- the steps of a tariff on a day: the first ones are asked for only where none have begun
abbrev pub AreStepsSpoiltOn : List ℕ → ℕ → Database → Type 0
AreStepsSpoiltOn name day db =
    HasSpoiltLatest name day db
    ⊎ (AreLatestSeen name day db None × HasSpoiltSteps (the_steps name) db)

-- AddMeter, and a meter's row: the tariff is asked for only where the meter does not stand
abbrev pub IsMeterSpoilt : List ℕ → Meter → Database → Type 0
IsMeterSpoilt number m = SpoiltElse (the_meter number) (HasSpoilt (the_tariff m.tariff))

-- SetTariff asks for the tariff only where the meter stands
abbrev pub IsSettingSpoilt : List ℕ → List ℕ → Database → Type 0
IsSettingSpoilt number name = SpoiltThen (the_meter number) (λ m. HasSpoilt (the_tariff name))

-- AddSteps asks for the steps of the day only where the tariff stands
abbrev pub AreDatedSpoilt : List ℕ → ℕ → Database → Type 0
AreDatedSpoilt name day db =
    HasSpoilt (the_tariff name) db
    ⊎ (IsTariffSeen name db true × HasSpoiltSteps (the_steps_from name day) db)

-- WithdrawSteps asks for the steps of the day only where the tariff stands, and for the sales since
-- that day only where there are such steps
abbrev pub IsWithdrawalSpoilt : List ℕ → ℕ → Database → Type 0
IsWithdrawalSpoilt name day db =
    AreDatedSpoilt name day db
    ⊎ (IsTariffSeen name db true
    × ((steps : List Step) × AreStepsSeen (the_steps_from name day) db (Some steps))
    × HasSpoilt (the_sale_since day) db)

-- SetKey asks for the sales to the meter only where it stands and has another key
abbrev pub IsKeySpoilt : List ℕ → ℕ → Database → Type 0
IsKeySpoilt number key =
    SpoiltThen (the_meter number)
    (λ m db. (has_other_key key (Some m) ≡ true) × HasSpoilt (the_last_id_of number) db)

-- OpenShift asks for the last number only where the operator has no open shift
abbrev pub IsOpeningSpoilt : List ℕ → Database → Type 0
IsOpeningSpoilt operator = SpoiltElse (the_open_shift operator) (HasSpoilt the_last_shift)

-- ShiftReport asks for the sales only where there is a shift of the number
abbrev pub IsReportSpoilt : ℕ → Database → Type 0
IsReportSpoilt number =
    SpoiltThen (the_shift number) (λ shift. HasSpoilt (the_sales_of_shift number))

-- ---- a sale

-- More was sold to a meter than any office sells: its last identifier under the base, or the tenths
-- of its month, are beyond their bounds.
pub record IsSoldBeyond (number : List ℕ) (moment : ℕ) (base : Base) (db : Database) : Type 0 where
  pub last : Option ℕ
  pub prior : ℕ
  pub last_shown : ShowsFirst (the_last_id number base) db last
  pub prior_shown : ShowsMade (the_month_tenths number (month_at moment)) (λ sum. unwrap_or sum 0)
      db prior
  pub beyond : (last_tid < unwrap_or last 0) ⊎ (greatest_prior < prior)

-- what was sold so far to a meter that has this base: both questions are asked
abbrev pub IsSoldSpoilt : List ℕ → ℕ → Base → Database → Type 0
IsSoldSpoilt number moment base db =
    HasSpoilt (the_last_id number base) db
    ⊎ (HasSpoilt (the_month_tenths number (month_at moment)) db
    ⊎ IsSoldBeyond number moment base db)

-- What a sale at a moment looks at of a meter that stands: a tariff without any steps stops it, and
-- what was sold is asked for only where there are some.
abbrev pub IsStandingSpoilt : List ℕ → ℕ → Meter → Database → Type 0
IsStandingSpoilt number moment m db =
    AreStepsSpoiltOn m.tariff (day_at moment) db
    ⊎ (AreStepsSeenOn m.tariff (day_at moment) db None
    ⊎ ((steps : List Step) × AreStepsSeenOn m.tariff (day_at moment) db (Some steps)
    × IsSoldSpoilt number moment m.base db))

-- it looks at all of it only where there is the meter
abbrev pub IsAccountSpoilt : List ℕ → ℕ → Database → Type 0
IsAccountSpoilt number moment = SpoiltThen (the_meter number) (IsStandingSpoilt number moment)

-- An order asks for the operator's open shift only where no sale is under its ref, and for the
-- meter only where a shift is open.
abbrev pub IsSaleSpoilt : ℕ → Order → Database → Type 0
IsSaleSpoilt moment order =
    SpoiltElse (the_sale_of_ref order.operator order.order_ref)
    (SpoiltThen (the_open_shift order.operator) (λ shift. IsAccountSpoilt order.meter moment))

-- ---- an import

-- the steps of a later day: both questions are asked, whether the tariff stands or not
abbrev pub AreStepsRowSpoilt : List ℕ → ℕ → Database → Type 0
AreStepsRowSpoilt name day db =
    HasSpoilt (the_tariff name) db ⊎ HasSpoiltSteps (the_steps_from name day) db

-- what is under a row's name
abbrev pub IsRowSpoilt : Row → Database → Type 0
IsRowSpoilt (kinds.Tariff name steps) db = HasSpoiltSteps (the_steps name) db
IsRowSpoilt (kinds.Steps name day steps) db = AreStepsRowSpoilt name day db
IsRowSpoilt (kinds.Meter number m) db = IsMeterSpoilt number m db

-- a row that is spoilt, where nothing that differs is under the names of those before it
abbrev pub AreRowsSpoilt : List Row → Database → Type 0
AreRowsSpoilt [] db = ⊥
AreRowsSpoilt (row ∷ rest) db =
    IsRowSpoilt row db
    ⊎ ((f : RowFacts) × IsRowSeen row db f × IsPassedBy row f × AreRowsSpoilt rest db)

-- ---- what stops a request

abbrev pub IsRequestSpoilt : ℕ → Request → Database → Type 0
IsRequestSpoilt moment (AddTariff name steps) = HasSpoiltSteps (the_steps name)
IsRequestSpoilt moment (AddSteps name day steps) = AreDatedSpoilt name day
IsRequestSpoilt moment (WithdrawSteps name day) = IsWithdrawalSpoilt name day
IsRequestSpoilt moment (AddMeter number m) = IsMeterSpoilt number m
IsRequestSpoilt moment (Import rows) = AreRowsSpoilt rows
IsRequestSpoilt moment (SetTariff number name) = IsSettingSpoilt number name
IsRequestSpoilt moment (MoveBase number base) = HasSpoilt (the_meter number)
IsRequestSpoilt moment (SetKey number key) = IsKeySpoilt number key
IsRequestSpoilt moment (OpenShift operator) = IsOpeningSpoilt operator
IsRequestSpoilt moment (CloseShift operator) = HasSpoilt (the_open_shift operator)
IsRequestSpoilt moment (Sell order) = IsSaleSpoilt moment order
IsRequestSpoilt moment (Reprint number) = HasSpoilt (the_sale number)
IsRequestSpoilt moment (ShiftReport number) = IsReportSpoilt number

abbrev pub IsSpoiltFor : Stamped → Database → Type 0
IsSpoiltFor at = IsRequestSpoilt at.moment at.request
