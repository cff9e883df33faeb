-- The parts of an ask: its kind, the values of its target and of its body, and what it has beside
-- them; and the ask of such parts.
use Rattle.std.specs.Prelude.{◌≡◌, ℕ, List, [], ◌∷◌, Option, None, Some}
use Rattle.papers.specs.declared.file_kind.FileKind.TheVariants as files
use Rattle.tariff.specs.declared.step.Step.{Step}
use Rattle.office_rules.specs.declared.decision.request.Request.TheVariants as requests
use Rattle.asks.specs.declared.ask.Ask.{Ask}
use Rattle.asks.specs.declared.ask.Ask.TheVariants.{Import, Do, Receipt, Look}
use Rattle.asks.specs.declared.ask.Bulk.{Bulk}
use Rattle.asks.specs.declared.ask.Bulk.TheVariants.{Nothing, Rows, Steps}
use Rattle.asks.specs.declared.kind.AskKind.{AskKind}
use Rattle.asks.specs.declared.kind.AskKind.TheVariants as kinds
use Rattle.asks.specs.declared.lookup.Lookup.TheVariants as lookups
use Rattle.asks.specs.declared.parts.Parts as declared
use Rattle.asks.specs.declared.value.Value.{Value}
use Rattle.asks.specs.declared.value.Value.TheVariants as values

pub record Parts : Type 0 where
  pub kind : AskKind
  pub target : List Value
  pub body : List Value
  pub bulk : Bulk

abbrev pub parts : AskKind → List Value → List Value → Bulk → Parts
parts kind target body bulk =
    record { kind = kind; target = target; body = body; bulk = bulk }

-- an ask whose values are in its target
abbrev pub targeted : AskKind → List Value → Parts
targeted kind target = parts kind target [] Nothing

-- The parts of each ask. The import of rows that were read has none: these are those of no ask,
-- since a body of rows has to have rows.
abbrev pub parts_of : Ask → Parts
parts_of (Import files.Meters csv) = parts kinds.ImportMeters [] [] (Rows csv)
parts_of (Import files.Tariffs csv) = parts kinds.ImportTariffs [] [] (Rows csv)
parts_of (Do (requests.Import rows)) = targeted kinds.ImportMeters []
parts_of (Do (requests.AddTariff name steps)) =
    parts kinds.AddTariff [] (values.Tariff name ∷ []) (Steps steps)
parts_of (Do (requests.AddSteps name day steps)) =
    parts kinds.AddSteps (values.Tariff name ∷ []) (values.Day day ∷ []) (Steps steps)
parts_of (Do (requests.WithdrawSteps name day)) =
    targeted kinds.WithdrawSteps (values.Tariff name ∷ values.Day day ∷ [])
parts_of (Do (requests.AddMeter number m)) =
    parts kinds.AddMeter []
    (values.Base m.base ∷ values.Key m.key ∷ values.Meter number ∷ values.Tariff m.tariff ∷ [])
    Nothing
parts_of (Do (requests.SetTariff meter name)) =
    parts kinds.SetTariff (values.Meter meter ∷ []) (values.Tariff name ∷ []) Nothing
parts_of (Do (requests.MoveBase meter base)) =
    parts kinds.MoveBase (values.Meter meter ∷ []) (values.Base base ∷ []) Nothing
parts_of (Do (requests.SetKey meter key)) =
    parts kinds.SetKey (values.Meter meter ∷ []) (values.Key key ∷ []) Nothing
parts_of (Do (requests.OpenShift operator)) =
    parts kinds.OpenShift [] (values.Operator operator ∷ []) Nothing
parts_of (Do (requests.CloseShift operator)) =
    parts kinds.CloseShift [] (values.Operator operator ∷ []) Nothing
parts_of (Do (requests.Sell o)) =
    parts kinds.Sell []
    (values.Meter o.meter ∷ values.Operator o.operator ∷ values.Ref o.order_ref
    ∷ values.Tender o.tender ∷ [])
    Nothing
parts_of (Do (requests.Reprint sale)) = targeted kinds.Reprint (values.Number sale ∷ [])
parts_of (Do (requests.ShiftReport shift)) = targeted kinds.ShiftReport (values.Number shift ∷ [])
parts_of (Receipt sale) = targeted kinds.Receipt (values.Number sale ∷ [])
parts_of (Look lookups.Health) = targeted kinds.Health []
parts_of (Look (lookups.Meter meter)) = targeted kinds.Meter (values.Meter meter ∷ [])
parts_of (Look (lookups.LastSale meter)) = targeted kinds.LastSale (values.Meter meter ∷ [])
parts_of (Look (lookups.SaleOfRef operator order_ref)) =
    targeted kinds.SaleOfRef (values.Operator operator ∷ values.Ref order_ref ∷ [])
parts_of (Look (lookups.Quote meter tender)) =
    targeted kinds.Quote (values.Meter meter ∷ values.Tender tender ∷ [])
parts_of (Look (lookups.ShiftTotals shift)) =
    targeted kinds.ShiftTotals (values.Number shift ∷ [])
parts_of (Look (lookups.Tariffs None)) = targeted kinds.FirstTariffs []
parts_of (Look (lookups.Tariffs (Some name))) =
    targeted kinds.TariffsAfter (values.Tariff name ∷ [])
parts_of (Look (lookups.Meters None)) = targeted kinds.FirstMeters []
parts_of (Look (lookups.Meters (Some meter))) =
    targeted kinds.MetersAfter (values.Meter meter ∷ [])
parts_of (Look (lookups.Shifts shift)) = targeted kinds.ShiftsAfter (values.Start shift ∷ [])
parts_of (Look (lookups.Sales sale)) = targeted kinds.SalesAfter (values.Start sale ∷ [])

-- these are the kind and the short values
pub record AreParts (p : Parts) (d : declared.Parts) : Type 0 where
  pub kind : d.kind ≡ p.kind
  pub target : d.target.items ≡ p.target
  pub body : d.body.items ≡ p.body

-- the ask of a kind whose values are in its target
abbrev pub targeted_ask : AskKind → List Value → Option Ask
targeted_ask kinds.Health [] = Some (Look lookups.Health)
targeted_ask kinds.Meter (values.Meter meter ∷ []) = Some (Look (lookups.Meter meter))
targeted_ask kinds.LastSale (values.Meter meter ∷ []) = Some (Look (lookups.LastSale meter))
targeted_ask kinds.SaleOfRef (values.Operator operator ∷ values.Ref order_ref ∷ []) =
    Some (Look (lookups.SaleOfRef operator order_ref))
targeted_ask kinds.Quote (values.Meter meter ∷ values.Tender tender ∷ []) =
    Some (Look (lookups.Quote meter tender))
targeted_ask kinds.ShiftTotals (values.Number shift ∷ []) = Some (Look (lookups.ShiftTotals shift))
targeted_ask kinds.FirstTariffs [] = Some (Look (lookups.Tariffs None))
targeted_ask kinds.TariffsAfter (values.Tariff name ∷ []) =
    Some (Look (lookups.Tariffs (Some name)))
targeted_ask kinds.FirstMeters [] = Some (Look (lookups.Meters None))
targeted_ask kinds.MetersAfter (values.Meter meter ∷ []) = Some (Look (lookups.Meters (Some meter)))
targeted_ask kinds.ShiftsAfter (values.Start shift ∷ []) = Some (Look (lookups.Shifts shift))
targeted_ask kinds.SalesAfter (values.Start sale ∷ []) = Some (Look (lookups.Sales sale))
targeted_ask kinds.Receipt (values.Number sale ∷ []) = Some (Receipt sale)
targeted_ask kinds.Reprint (values.Number sale ∷ []) = Some (Do (requests.Reprint sale))
targeted_ask kinds.ShiftReport (values.Number shift ∷ []) = Some (Do (requests.ShiftReport shift))
targeted_ask kinds.WithdrawSteps (values.Tariff name ∷ values.Day day ∷ []) =
    Some (Do (requests.WithdrawSteps name day))
targeted_ask kind target = None

-- the ask of a kind that has values in its body
abbrev pub told_ask : AskKind → List Value → List Value → Option Ask
told_ask kinds.AddMeter []
    (values.Base base ∷ values.Key key ∷ values.Meter number ∷ values.Tariff name ∷ []) =
    Some (Do (requests.AddMeter number (record { base = base; tariff = name; key = key })))
told_ask kinds.SetTariff (values.Meter meter ∷ []) (values.Tariff name ∷ []) =
    Some (Do (requests.SetTariff meter name))
told_ask kinds.MoveBase (values.Meter meter ∷ []) (values.Base base ∷ []) =
    Some (Do (requests.MoveBase meter base))
told_ask kinds.SetKey (values.Meter meter ∷ []) (values.Key key ∷ []) =
    Some (Do (requests.SetKey meter key))
told_ask kinds.OpenShift [] (values.Operator operator ∷ []) =
    Some (Do (requests.OpenShift operator))
told_ask kinds.CloseShift [] (values.Operator operator ∷ []) =
    Some (Do (requests.CloseShift operator))
told_ask kinds.Sell []
    (values.Meter meter ∷ values.Operator operator ∷ values.Ref order_ref ∷ values.Tender tender
    ∷ []) =
    Some (Do (requests.Sell (record {
      operator = operator;
      order_ref = order_ref;
      meter = meter;
      tender = tender;
    })))
told_ask kind target body = None

-- the ask of a kind that has rows
abbrev pub import_ask : AskKind → List Value → List Value → List ℕ → Option Ask
import_ask kinds.ImportMeters [] [] csv = Some (Import files.Meters csv)
import_ask kinds.ImportTariffs [] [] csv = Some (Import files.Tariffs csv)
import_ask kind target body csv = None

-- the ask of a kind that has steps
abbrev pub steps_ask : AskKind → List Value → List Value → List Step → Option Ask
steps_ask kinds.AddTariff [] (values.Tariff name ∷ []) steps =
    Some (Do (requests.AddTariff name steps))
steps_ask kinds.AddSteps (values.Tariff name ∷ []) (values.Day day ∷ []) steps =
    Some (Do (requests.AddSteps name day steps))
steps_ask kind target body steps = None

-- the ask of a kind that has nothing beside its values
abbrev pub plain_ask : AskKind → List Value → List Value → Option Ask
plain_ask kind target [] = targeted_ask kind target
plain_ask kind target (value ∷ body) = told_ask kind target (value ∷ body)

-- the same by what it has beside its values
abbrev pub ask_with : AskKind → List Value → List Value → Bulk → Option Ask
ask_with kind target body Nothing = plain_ask kind target body
ask_with kind target body (Rows csv) = import_ask kind target body csv
ask_with kind target body (Steps steps) = steps_ask kind target body steps

-- the ask of some parts, if there is one
abbrev pub ask_of : Parts → Option Ask
ask_of parts = ask_with parts.kind parts.target parts.body parts.bulk
