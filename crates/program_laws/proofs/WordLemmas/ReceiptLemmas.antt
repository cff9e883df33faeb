-- The same words of `report` ask for the same receipt.
use Rattle.std.proofs.Common.{◌≡◌, ◌∙◌, ℕ, true, List, Option, Some, None, codes, eqb, inl, inr, sym, ap, subst}
use Rattle.std.proofs.Math.Dec.{T}
use Rattle.std.specs.Cmp.Lexicographic.{pointwise}
use Rattle.clap.specs.Walk.{Row}
use Rattle.sts_fields.specs.Text.{Text}
use Rattle.asks.specs.declared.ask.Ask.TheVariants.{Do, Import, Look, Receipt}
use Rattle.asks.specs.declared.lookup.Lookup.{Lookup}
use Rattle.office_rules.specs.declared.decision.request.Request.{Request}
use Rattle.office_rules.specs.declared.decision.request.Request.TheVariants as requests
use Rattle.command_line.specs.Asked.{AskFor}
use Rattle.command_line.specs.Commands.{SaysAskWords, SaysLookup, SaysRequest}
use Rattle.command_line.specs.Place.{asks_office}
use Rattle.command_line.specs.Said.{IsArgument, parsed_argument}
use Rattle.command_line.specs.Values.{SaysItem}
use Rattle.command_line.specs.declared.asked.Asked.{Asked}
use Rattle.command_line.specs.declared.office_words.AskWords.{AskWords}
use Rattle.command_line.specs.declared.office_words.AskWords.TheVariants as ask_words
use Rattle.program_laws.specs.runs.Words.{AskWordsRequest, Requests, WordsRequest}
use Rattle.program_laws.proofs.LookupLemmas.{lookup_said}
use Rattle.program_laws.proofs.WordLemmas.{IsNamed, one_argument, requested_again}

-- the kind is a receipt's
abbrev IsReceiptKind : Option Text → Type 0
IsReceiptKind None = ⊥
IsReceiptKind (Some kind) = T (pointwise eqb kind (codes "receipt"))

abbrev IsReport : Text → Type 0
IsReport name = IsNamed (codes "report") name

-- what asks for the receipt of a number
abbrev receipt : ℕ → AskWords
receipt number = ask_words.Ask (Receipt number)

-- the words of `report` that name a receipt
module _ (rows : List Row) (kind : parsed_argument (codes "kind") rows ≡ Some (codes "receipt")) where
  -- request nothing
  requests_nothing : (r : Request) → ¬ SaysRequest (codes "report") rows r
  requests_nothing (requests.Sell order) says = subst IsReport says.0 tt
  requests_nothing (requests.MoveBase meter base) says = subst IsReport says.0 tt
  requests_nothing (requests.WithdrawSteps name day) says = subst IsReport says.0 tt
  requests_nothing (requests.SetKey meter key) says = subst IsReport says.0 tt
  requests_nothing (requests.OpenShift operator) says = subst IsReport says.0 tt
  requests_nothing (requests.CloseShift operator) says = subst IsReport says.0 tt
  requests_nothing (requests.AddTariff name steps) says = says
  requests_nothing (requests.AddSteps name day steps) says = says
  requests_nothing (requests.AddMeter number meter) says = says
  requests_nothing (requests.Import imported) says = says
  requests_nothing (requests.SetTariff number name) says = subst IsReport says.0 tt
  requests_nothing (requests.Reprint number) says = says
  requests_nothing (requests.ShiftReport number) says = subst IsReceiptKind (sym kind ∙ says.1) tt

  -- and look nothing up
  looks_nothing : (lookup : Lookup) → ¬ SaysLookup (codes "report") rows lookup
  looks_nothing lookup says = elim ((lookup_said (codes "report") rows lookup says).named) [
    | inl shows ↦ subst IsReport shows tt
    | inr (inl offers) ↦ subst IsReport offers tt
    | inr (inr totals) ↦ subst IsReceiptKind (sym kind ∙ totals.1) tt
  ]

  -- nothing but that receipt is asked by them
  reprints : (n : ℕ) (other : AskWords) → IsArgument SaysItem (parsed_argument (codes "number") rows) n → SaysAskWords (codes "report") rows other
      → other ≡ receipt n
  reprints n (ask_words.Ask (Receipt m)) one says =
      ap receipt (one_argument SaysItem (λ text v w x y. sym x.0.1 ∙ y.0.1) _ m n says.2 one)
  reprints n (ask_words.Ask (Do request)) one says = absurd (requests_nothing request says)
  reprints n (ask_words.Ask (Import file csv)) one says = absurd says
  reprints n (ask_words.Ask (Look lookup)) one says = absurd (looks_nothing lookup says)
  reprints n (ask_words.Import file csv) one says = absurd (subst IsReport says.0 tt)
  reprints n (ask_words.List lookup) one says = absurd (subst IsReport says.0 tt)
  reprints n ask_words.Export one says = absurd (subst IsReceiptKind (sym kind ∙ says.1) tt)

only_reprints : (n : ℕ) (name : Text) (rows : List Row) (other : AskWords) → SaysAskWords name rows (receipt n) → SaysAskWords name rows other
    → other ≡ receipt n
only_reprints n name rows other one says = reprints rows one.1 n other one.2 (subst (λ (x : Text). SaysAskWords x rows other) one.0 says)

-- `report` asks an office
reports_of_office : (n : ℕ) (name : Text) (rows : List Row) → SaysAskWords name rows (receipt n) → asks_office name ≡ true
reports_of_office n name rows says = ap asks_office says.0

-- words that request a sale again say its receipt
receipt_asked : (n : ℕ) (name : Text) (rows : List Row) (other : AskWords) → SaysAskWords name rows other → AskWordsRequest other (requests.Reprint n)
    → other ≡ receipt n
receipt_asked n name rows (ask_words.Ask (Receipt m)) says wanted = let same : requests.Reprint n ≡ requests.Reprint m = wanted in cc
receipt_asked n name rows (ask_words.Ask (Do request)) says wanted = absurd (subst (λ (r : Request). SaysRequest name rows r) (sym wanted) says)
receipt_asked n name rows (ask_words.Ask (Import kind csv)) says wanted = absurd says
receipt_asked n name rows (ask_words.Ask (Look lookup)) says wanted = absurd wanted
receipt_asked n name rows (ask_words.Import kind csv) says (added, wanted) = absurd (cc)
receipt_asked n name rows (ask_words.List lookup) says wanted = absurd wanted
receipt_asked n name rows ask_words.Export says wanted = absurd wanted

-- they ask for nothing else, wherever the program is run
pub reprints_again : (words : List Text) (n : ℕ) → WordsRequest words (requests.Reprint n) → (asked : Asked) → AskFor words asked
    → Requests asked (requests.Reprint n)
reprints_again words n wanted asked for =
    requested_again (requests.Reprint n) (receipt n) (reports_of_office n) (only_reprints n) (receipt_asked n) words wanted asked for
