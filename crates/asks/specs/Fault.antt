-- What reading a body finds: a value, or that there is none.
use Rattle.std.specs.Prelude.{◌≡◌, ◌++◌, List, Result, Ok, Err, ⊤}
use Rattle.asks.specs.declared.ask.Bulk.{Bulk}
use Rattle.asks.specs.declared.fault.AskFault.{AskFault}
use Rattle.asks.specs.declared.fault.AskFault.TheVariants.{OutsideRule, Memory}
use Rattle.asks.specs.declared.value.Value.{Value}

-- a value of a body was found of which this holds, or it holds of none, or memory was short
abbrev pub IsFoundInBody : {A : Type 0} → (A → Type 0) → Result A AskFault → Type 0
IsFoundInBody Holds (Ok value) = Holds value
IsFoundInBody {A} Holds (Err OutsideRule) = (value : A) → ¬ Holds value
IsFoundInBody Holds (Err Memory) = ⊤

-- values and what is beside them were found of which this holds, and the values put behind others;
-- or it holds of none, or memory was short
abbrev pub PutsFoundInBody : (List Value → Bulk → Type 0) → List Value → List Value
    → Result Bulk AskFault → Type 0
PutsFoundInBody Holds old new (Ok bulk) =
    (values : List Value) × (new ≡ old ++ values) × Holds values bulk
PutsFoundInBody Holds old new (Err OutsideRule) =
    (values : List Value) (bulk : Bulk) → ¬ Holds values bulk
PutsFoundInBody Holds old new (Err Memory) = ⊤
