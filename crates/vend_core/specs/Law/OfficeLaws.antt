-- What the office's laws say of single requests, of the bases of meters and of the steps of days.
use Rattle.std.specs.Prelude.{◌≡◌, ◌≢◌, ◌⊎◌, ◌++◌, ◌∷◌, [], ℕ, ◌≤◌, true, List, Some, None, Ok}
use Rattle.std.specs.Prelude.{Contains}
use Rattle.sts_fields.specs.Base.{year_of}
use Rattle.sts_fields.specs.Calendar.{month_at}
use Rattle.sts_fields.specs.Day.{day_at}
use Rattle.sts_fields.specs.declared.base.Base.{Base}
use Rattle.sts_token.specs.Token.{BlockFunction}
use Rattle.tariff.specs.Cost.{cost_of}
use Rattle.tariff.specs.declared.step.Step.{Step}
use Rattle.office_rules.specs.Decision.Fold.{reply, step, with_base}
use Rattle.office_rules.specs.Office.Lookup.{IsLatest, NoneBegun, prior, steps_on}
use Rattle.office_rules.specs.Law.NewSale.{IsNewSale}
use Rattle.office_rules.specs.Office.{Office}
use Rattle.office_rules.specs.Law.Store.{IsUnderRef}
use Rattle.office_rules.specs.declared.decision.answer.Answer.TheVariants as answers
use Rattle.office_rules.specs.declared.office.meter.Meter.{Meter}
use Rattle.office_rules.specs.declared.decision.request.Order.{Order}
use Rattle.office_rules.specs.declared.decision.request.Request.TheVariants as requests
use Rattle.office_rules.specs.declared.decision.request.Stamped.{Stamped}
use Rattle.office_rules.specs.declared.office.sale.Sale.{Sale}

-- the order was served before, by this sale: the operator and the ref are its own
abbrev pub WasSold : Office → Order → Sale → Type 0
WasSold o order first = IsUnderRef o order.operator order.order_ref first

-- the order is the one that the sale was made for
abbrev pub IsSameOrder : Order → Sale → Type 0
IsSameOrder order first = (first.meter ≡ order.meter) × (first.tender ≡ order.tender)

-- a step leaves the sales, or adds the new one of an order, which it answers
abbrev pub SellsOne : BlockFunction → Office → Stamped → Type 0
SellsOne forward o at =
    ((step forward o at).sales ≡ o.sales)
    ⊎ ((s : Sale)
    × ((order : Order) × (at.request ≡ requests.Sell order) × IsNewSale forward o at order s)
    × ((step forward o at).sales ≡ o.sales ++ s ∷ []) × (reply forward o at ≡ Ok (answers.Sold s)))

-- the greatest of the bases that a meter had
pub record IsGreatestBase (o : Office) (number : List ℕ) (base : Base) : Type 0 where
  pub had : o.bases number base ≡ true
  pub greatest : (other : Base) → o.bases number other ≡ true → year_of other ≤ year_of base

-- the request is granted, and moves the meter of a number to the base: the meter is as it was but
-- for its present base, and has had this one from then on
pub record IsMoved (forward : BlockFunction) (o : Office) (at : Stamped) (number : List ℕ)
    (base : Base) (m : Meter) : Type 0 where
  pub answered : reply forward o at ≡ Ok answers.Done
  pub present : (step forward o at).meters number ≡ Some (with_base base m)
  pub had : (step forward o at).bases number base ≡ true

-- the request is granted, and takes the further steps of a tariff from a day on back: there are
-- none any more, and all others stand
pub record IsWithdrawn (forward : BlockFunction) (o : Office) (at : Stamped) (name : List ℕ)
    (day : ℕ) : Type 0 where
  pub answered : reply forward o at ≡ Ok (answers.Withdrawn 1)
  pub gone : (step forward o at).dated_steps name day ≡ None
  pub others : (q : List ℕ) (d : ℕ) → (q ≢ name) ⊎ (d ≢ day)
      → (step forward o at).dated_steps q d ≡ o.dated_steps q d

-- the steps of a tariff on a day, in a rule: the latest that have begun, or the first ones where
-- none have
abbrev pub AreStepsOn : Office → List ℕ → ℕ → List Step → Type 0
AreStepsOn o name day steps =
    IsLatest (o.dated_steps name) day steps
    ⊎ (NoneBegun (o.dated_steps name) day × (o.tariffs name ≡ Some steps))

-- the request comes on the day or on a later one
abbrev pub IsNotBefore : ℕ → Stamped → Type 0
IsNotBefore day at = day ≤ day_at at.moment

-- the sale costs what its tenths cost, after so many of its month, by the steps that the tariff has
-- on the sale's own day
abbrev pub IsPricedBy : Office → List ℕ → ℕ → Sale → Type 0
IsPricedBy o name before s = s.price ≡ cost_of (steps_on o name (day_at s.moment)) before s.tenths

-- a sale that an office made: it stands in a later one as it was, and costs there by the tariff
-- that its meter had, after the tenths that the meter had in the month
pub record KeepsPrice (earlier later : Office) (s : Sale) : Type 0 where
  pub stands : Contains later.sales s
  pub meter : Meter
  pub meter_is : earlier.meters s.meter ≡ Some meter
  pub price : IsPricedBy later meter.tariff (prior earlier s.meter (month_at s.moment)) s
