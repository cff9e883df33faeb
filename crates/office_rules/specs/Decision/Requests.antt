-- What the values of a request keep.
use Rattle.std.specs.Prelude.{◌<◌, ◌^◌, All}
use Rattle.tariff.specs.Steps.{IsSteps}
use Rattle.tariff.specs.Tender.{IsTender}
use Rattle.office_rules.specs.Name.{IsMeterNo, IsName, IsOperator}
use Rattle.sts_fields.specs.Day.{IsDay}
use Rattle.sts_fields.specs.Moment.{IsMoment}
use Rattle.sts_fields.specs.Text.{Text}
use Rattle.office_rules.specs.declared.office.meter.Meter.{Meter}
use Rattle.office_rules.specs.declared.decision.request.Order.{Order}
use Rattle.office_rules.specs.declared.decision.request.Request.{Request}
use Rattle.office_rules.specs.declared.decision.request.Request.TheVariants.{AddTariff, AddSteps}
use Rattle.office_rules.specs.declared.decision.request.Request.TheVariants.{WithdrawSteps}
use Rattle.office_rules.specs.declared.decision.request.Request.TheVariants.{AddMeter, Import}
use Rattle.office_rules.specs.declared.decision.request.Request.TheVariants.{SetTariff, MoveBase}
use Rattle.office_rules.specs.declared.decision.request.Request.TheVariants.{SetKey}
use Rattle.office_rules.specs.declared.decision.request.Request.TheVariants.{OpenShift, CloseShift}
use Rattle.office_rules.specs.declared.decision.request.Request.TheVariants.{Sell, Reprint}
use Rattle.office_rules.specs.declared.decision.request.Request.TheVariants.{ShiftReport}
use Rattle.office_rules.specs.declared.decision.request.Stamped.{Stamped}
use Rattle.office_rules.specs.declared.office.row.Row.{Row}
use Rattle.office_rules.specs.declared.office.row.Row.TheVariants as kinds

-- a meter that may be stored
pub record IsMeter (number : Text) (m : Meter) : Type 0 where
  pub number_rule : IsMeterNo number
  pub tariff : IsName m.tariff
  pub key : m.key < 2 ^ 64

-- a row of an import that may be stored
abbrev pub IsRow : Row → Type 0
IsRow (kinds.Tariff name steps) = IsName name × IsSteps steps
IsRow (kinds.Steps name day steps) = IsName name × IsDay day × IsSteps steps
IsRow (kinds.Meter number m) = IsMeter number m

-- an order
pub record IsOrder (order : Order) : Type 0 where
  pub operator : IsOperator order.operator
  pub order_ref : IsName order.order_ref
  pub meter : IsMeterNo order.meter
  pub tender : IsTender order.tender

abbrev pub IsRequest : Request → Type 0
IsRequest (AddTariff name steps) = IsName name × IsSteps steps
IsRequest (AddSteps name day steps) = IsName name × IsDay day × IsSteps steps
IsRequest (WithdrawSteps name day) = IsName name × IsDay day
IsRequest (AddMeter number m) = IsMeter number m
IsRequest (Import rows) = All IsRow rows
IsRequest (SetTariff number name) = IsMeterNo number × IsName name
IsRequest (MoveBase number base) = IsMeterNo number
IsRequest (SetKey number key) = IsMeterNo number × (key < 2 ^ 64)
IsRequest (OpenShift operator) = IsOperator operator
IsRequest (CloseShift operator) = IsOperator operator
IsRequest (Sell order) = IsOrder order
IsRequest (Reprint number) = Unit {0}
IsRequest (ShiftReport number) = Unit {0}

-- a request with its moment; that its nibble is below 16 the type says
pub record IsStamped (at : Stamped) : Type 0 where
  pub moment : IsMoment at.moment
  pub request : IsRequest at.request
