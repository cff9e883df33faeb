-- What is decided by the rows of an office.
use Rattle.std.specs.Prelude.{◌≡◌, ◌⊎◌, Result, Ok, Err}
use Rattle.sts_token.specs.Token.{BlockFunction}
use Rattle.office_rules.specs.Decision.{decision}
use Rattle.office_rules.specs.Office.{Office}
use Rattle.office_rules.specs.declared.decision.change.Change.{Change}
use Rattle.office_rules.specs.declared.decision.refusal.Refusal.{Refusal}
use Rattle.office_rules.specs.declared.decision.refusal.Refusal.TheVariants.{Memory, Store}
use Rattle.office_rules.specs.declared.decision.request.Stamped.{Stamped}
use Rattle.book_facts.specs.declared.decided.Decided.{Decided}

-- the office decided the request, or there was no memory, or the store failed
abbrev pub IsDecided : BlockFunction → Office → Stamped → Result Change Refusal → Type 0
IsDecided forward o at result =
    (result ≡ decision forward o at) ⊎ ((result ≡ Err Memory) ⊎ (result ≡ Err Store))

-- the change of what was decided
abbrev pub change_in : Result Decided Refusal → Result Change Refusal
change_in (Ok decided) = Ok decided.change
change_in (Err refusal) = Err refusal
