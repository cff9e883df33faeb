-- Pages of lists in replies: their texts, and the pages that they tell.
use Rattle.std.specs.Prelude.{◌≡◌, ℕ, ◌≤◌, List, All, length, map, Option, Some, None, ⊤}
use Rattle.std.specs.List.{AllByRecursion}
use Rattle.book_states.specs.declared.lookup.Found.{Found}
use Rattle.book_states.specs.declared.lookup.Found.TheVariants as found
use Rattle.book_states.specs.declared.lookup.LaterSteps.{LaterSteps}
use Rattle.book_states.specs.declared.lookup.ListedMeter.{ListedMeter}
use Rattle.book_states.specs.declared.lookup.ListedShift.{ListedShift}
use Rattle.book_states.specs.declared.lookup.ListedTariff.{ListedTariff}
use Rattle.book_lists.specs.Pages.{page_size}
use Rattle.desk_messages.specs.declared.reply.form.Form.TheVariants.{Json}
use Rattle.desk_messages.specs.reply.Body.{found_body}
use Rattle.asks.specs.Value.{IsTargetNumber}
use Rattle.sts_fields.specs.Day.{IsDay}
use Rattle.sts_fields.specs.Moment.{IsMoment}
use Rattle.sts_token.specs.Reading.{IsOfClassZero}
use Rattle.tariff.specs.Steps.{IsSteps}
use Rattle.tariff.specs.declared.step.Step.{Step}
use Rattle.office_rules.specs.Name.{IsMeterNo, IsName, IsOperator}
use Rattle.office_rules.specs.declared.office.sale.Sale.{Sale}
use Rattle.desk_client.specs.Sale.{IsSaleTold}
use Rattle.desk_client.specs.Totals.{AreTotals}
use Rattle.desk_client.specs.declared.page.PageKind.{PageKind}
use Rattle.desk_client.specs.declared.page.PageKind.TheVariants.{Tariffs, Meters, Shifts, Sales}

-- the body of a page, as a desk writes it
abbrev pub page_as_read : Found → List ℕ
page_as_read page = found_body Json page

-- steps from a later day on, by the rules
pub record IsToldLater (l : LaterSteps) : Type 0 where
  pub from : IsDay l.from
  pub steps : IsSteps l.steps

-- a tariff
pub record IsToldTariff (t : ListedTariff) : Type 0 where
  pub name : IsName t.name
  pub steps : IsSteps t.steps
  pub later : All IsToldLater t.later.items

-- a meter
pub record IsToldListedMeter (m : ListedMeter) : Type 0 where
  pub number : IsMeterNo m.number
  pub tariff : IsName m.tariff

-- the end of a shift, if it has one
abbrev pub IsToldEnd : Option ℕ → Type 0
IsToldEnd None = ⊤
IsToldEnd (Some moment) = IsMoment moment

-- a shift with its totals
pub record IsToldListedShift (l : ListedShift) : Type 0 where
  pub number : IsTargetNumber l.shift.number
  pub operator : IsOperator l.shift.operator
  pub opened : IsMoment l.shift.opened
  pub closed : IsToldEnd l.shift.closed
  pub totals : AreTotals l.totals

-- members that keep their rules, no more than a page has
pub record AreTold {A : Type 0} (IsItem : A → Type 0) (items : List A) : Type 0 where
  pub each : All IsItem items
  pub few : length items ≤ page_size

-- a page of this kind, by its rules; the nibbles of the tokens of its sales are not told
abbrev pub IsToldPage : PageKind → Found → Type 0
IsToldPage Tariffs (found.Tariffs page) = AreTold IsToldTariff page.items
IsToldPage Meters (found.Meters page) = AreTold IsToldListedMeter page.items
IsToldPage Shifts (found.Shifts page) = AreTold IsToldListedShift page.items
IsToldPage Sales (found.Sales page) = AreTold IsSaleTold page.items
IsToldPage kind page = ⊥

-- the digits of each sale of a page can be a token's
abbrev pub HaveTokens : List Sale → Type 0
HaveTokens sales = AllByRecursion (λ (s : Sale). IsOfClassZero s.digits) sales

abbrev pub HasTokens : Found → Type 0
HasTokens (found.Sales page) = HaveTokens page.items
HasTokens page = ⊤

-- what a tariff of a list has
abbrev pub tariff_view : ListedTariff → List ℕ × List Step × List LaterSteps
tariff_view t = (t.name, t.steps, t.later.items)

-- two pages have the same members, in the same order
abbrev pub AreAlike : Found → Found → Type 0
AreAlike (found.Tariffs page) (found.Tariffs other) =
    map tariff_view page.items ≡ map tariff_view other.items
AreAlike (found.Meters page) (found.Meters other) = page.items ≡ other.items
AreAlike (found.Shifts page) (found.Shifts other) = page.items ≡ other.items
AreAlike (found.Sales page) (found.Sales other) = page.items ≡ other.items
AreAlike page other = ⊥
