-- An import that comes again, and which requests leave what a row of it added.
use Rattle.std.specs.Prelude.{◌≡◌, ◌≢◌, ◌⊎◌, ℕ, List, Some, Ok, All}
use Rattle.sts_fields.specs.Text.{Text}
use Rattle.sts_token.specs.Token.{BlockFunction}
use Rattle.office_rules.specs.Decision.Fold.{reply, step}
use Rattle.vend_core.specs.Law.Life.{Exchange}
use Rattle.office_rules.specs.Office.{Office}
use Rattle.office_rules.specs.declared.decision.answer.Answer.TheVariants.{Imported}
use Rattle.office_rules.specs.declared.decision.request.Request.{Request}
use Rattle.office_rules.specs.declared.decision.request.Request.TheVariants.{SetTariff, MoveBase}
use Rattle.office_rules.specs.declared.decision.request.Request.TheVariants.{SetKey, WithdrawSteps}
use Rattle.office_rules.specs.declared.decision.request.Stamped.{Stamped}
use Rattle.office_rules.specs.declared.office.row.Row.{Row}
use Rattle.office_rules.specs.declared.office.row.Row.TheVariants as kinds

-- the row is none of the meter of a number
abbrev pub IsOtherMeter : Text → Row → Type 0
IsOtherMeter number (kinds.Meter q m) = q ≢ number
IsOtherMeter number row = Unit {0}

-- the row is none of further steps of a name from a day on
abbrev pub AreOtherSteps : Text → ℕ → Row → Type 0
AreOtherSteps name day (kinds.Steps q d steps) = (q ≢ name) ⊎ (d ≢ day)
AreOtherSteps name day row = Unit {0}

-- a request that leaves what a row added: it changes no meter of the row, and withdraws no steps of
-- the row
abbrev pub LeavesRow : Request → Row → Type 0
LeavesRow (SetTariff number name) row = IsOtherMeter number row
LeavesRow (MoveBase number base) row = IsOtherMeter number row
LeavesRow (SetKey number key) row = IsOtherMeter number row
LeavesRow (WithdrawSteps name day) row = AreOtherSteps name day row
LeavesRow request row = Unit {0}

abbrev pub LeavesRows : List Row → Stamped → Type 0
LeavesRows rows at = All (LeavesRow at.request) rows

-- an exchange whose request leaves them
abbrev pub AsksNoChange : List Row → Exchange → Type 0
AsksNoChange rows e = LeavesRows rows e.request

-- an office has what a row added
abbrev pub HasRow : Office → Row → Type 0
HasRow o (kinds.Tariff name steps) = o.tariffs name ≡ Some steps
HasRow o (kinds.Steps name day steps) = o.dated_steps name day ≡ Some steps
HasRow o (kinds.Meter number m) = o.meters number ≡ Some m

-- a request is answered that no row was new, and changes nothing
abbrev pub ImportsNothing : BlockFunction → Office → Stamped → Type 0
ImportsNothing forward o at = (reply forward o at ≡ Ok (Imported 0)) × (step forward o at ≡ o)
