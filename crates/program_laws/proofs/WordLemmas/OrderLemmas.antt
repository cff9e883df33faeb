-- The same words of `sell` ask the same order.
use Rattle.std.proofs.Common.{◌≡◌, ◌∙◌, true, List, codes, inl, inr, sym, ap, subst}
use Rattle.clap.specs.Walk.{Row}
use Rattle.sts_fields.specs.Text.{Text}
use Rattle.asks.specs.declared.ask.Ask.TheVariants.{Do, Import, Look, Receipt}
use Rattle.asks.specs.declared.lookup.Lookup.{Lookup}
use Rattle.office_rules.specs.declared.decision.request.Order.{Order}
use Rattle.office_rules.specs.declared.decision.request.Request.{Request}
use Rattle.office_rules.specs.declared.decision.request.Request.TheVariants as requests
use Rattle.command_line.specs.Asked.{AskFor}
use Rattle.command_line.specs.Commands.{SaysAskWords, SaysLookup, SaysOrder, SaysRequest}
use Rattle.command_line.specs.Place.{asks_office}
use Rattle.command_line.specs.Values.{SaysMeterNo, SaysOperator, SaysRef, SaysTender}
use Rattle.command_line.specs.declared.asked.Asked.{Asked}
use Rattle.command_line.specs.declared.asked.Asked.TheVariants as asks
use Rattle.command_line.specs.declared.office_words.AskWords.{AskWords}
use Rattle.command_line.specs.declared.office_words.AskWords.TheVariants as ask_words
use Rattle.command_line.specs.declared.place.Place.{Place}
use Rattle.command_line.specs.declared.place.Place.TheVariants.{Desk, File}
use Rattle.program_laws.specs.runs.Words.{AskWordsRequest, AsksFile, Requests, WordsRequest, selling}
use Rattle.program_laws.proofs.LookupLemmas.{lookup_said}
use Rattle.program_laws.proofs.WordLemmas.{IsNamed, one_argument, requested_again}

-- some rows say one order
one_order : (rows : List Row) (a b : Order) → SaysOrder rows a → SaysOrder rows b → a ≡ b
one_order rows a b one other =
    let operator = one_argument SaysOperator (λ text v w x y. sym x.0 ∙ y.0) _ a.operator b.operator one.operator other.operator in
    let order_ref = one_argument SaysRef (λ text v w x y. sym x.0 ∙ y.0) _ a.order_ref b.order_ref one.order_ref other.order_ref in
    let meter = one_argument SaysMeterNo (λ text v w x y. sym x.0 ∙ y.0) _ a.meter b.meter one.meter other.meter in
    let tender = one_argument SaysTender (λ text v w x y. sym x.0.1 ∙ y.0.1) _ a.tender b.tender one.tender other.tender in
    λ i. record { operator = operator i; order_ref = order_ref i; meter = meter i; tender = tender i }

abbrev IsSell : Text → Type 0
IsSell name = IsNamed (codes "sell") name

-- a request by the words of `sell` is that of the order that they say
is_order : (rows : List Row) (order : Order) (r : Request) → SaysOrder rows order → SaysRequest (codes "sell") rows r → r ≡ requests.Sell order
is_order rows order (requests.Sell other) one says = ap requests.Sell (one_order rows other order says.1 one)
is_order rows order (requests.MoveBase meter base) one says = absurd (subst IsSell says.0 tt)
is_order rows order (requests.WithdrawSteps name day) one says = absurd (subst IsSell says.0 tt)
is_order rows order (requests.SetKey meter key) one says = absurd (subst IsSell says.0 tt)
is_order rows order (requests.OpenShift operator) one says = absurd (subst IsSell says.0 tt)
is_order rows order (requests.CloseShift operator) one says = absurd (subst IsSell says.0 tt)
is_order rows order (requests.AddTariff name steps) one says = absurd says
is_order rows order (requests.AddSteps name day steps) one says = absurd says
is_order rows order (requests.AddMeter number meter) one says = absurd says
is_order rows order (requests.Import imported) one says = absurd says
is_order rows order (requests.SetTariff number name) one says = absurd (subst IsSell says.0 tt)
is_order rows order (requests.Reprint number) one says = absurd says
is_order rows order (requests.ShiftReport number) one says = absurd (subst IsSell says.0 tt)

-- nothing is looked up by them
looks_nothing : (rows : List Row) (lookup : Lookup) → ¬ SaysLookup (codes "sell") rows lookup
looks_nothing rows lookup says = elim ((lookup_said (codes "sell") rows lookup says).named) [
  | inl shows ↦ subst IsSell shows tt
  | inr (inl offers) ↦ subst IsSell offers tt
  | inr (inr totals) ↦ subst IsSell totals.0 tt
]

-- nothing but that order is asked by them
sells : (rows : List Row) (order : Order) (other : AskWords) → SaysOrder rows order → SaysAskWords (codes "sell") rows other → other ≡ selling order
sells rows order (ask_words.Ask (Do request)) one says = ap (λ (r : Request). ask_words.Ask (Do r)) (is_order rows order request one says)
sells rows order (ask_words.Ask (Import kind csv)) one says = absurd says
sells rows order (ask_words.Ask (Receipt number)) one says = absurd (subst IsSell says.0 tt)
sells rows order (ask_words.Ask (Look lookup)) one says = absurd (looks_nothing rows lookup says)
sells rows order (ask_words.Import kind csv) one says = absurd (subst IsSell says.0 tt)
sells rows order (ask_words.List lookup) one says = absurd (subst IsSell says.0 tt)
sells rows order ask_words.Export one says = absurd (subst IsSell says.0 tt)

-- words that say an order say nothing else
pub only_sells : (order : Order) (name : Text) (rows : List Row) (other : AskWords) → SaysAskWords name rows (selling order) → SaysAskWords name rows other
    → other ≡ selling order
only_sells order name rows other one says = sells rows order other one.1 (subst (λ (n : Text). SaysAskWords n rows other) one.0 says)

-- `sell` asks an office
pub sells_of_office : (order : Order) (name : Text) (rows : List Row) → SaysAskWords name rows (selling order) → asks_office name ≡ true
sells_of_office order name rows says = ap asks_office says.0

-- words that request an order say `sell`
sell_asked : (order : Order) (name : Text) (rows : List Row) (other : AskWords) → SaysAskWords name rows other → AskWordsRequest other (requests.Sell order)
    → other ≡ selling order
sell_asked order name rows (ask_words.Ask (Do request)) says wanted = ap (λ (r : Request). ask_words.Ask (Do r)) (sym wanted)
sell_asked order name rows (ask_words.Ask (Import kind csv)) says wanted = absurd says
sell_asked order name rows (ask_words.Ask (Receipt number)) says wanted = absurd (cc)
sell_asked order name rows (ask_words.Ask (Look lookup)) says wanted = absurd wanted
sell_asked order name rows (ask_words.Import kind csv) says (added, wanted) = absurd (cc)
sell_asked order name rows (ask_words.List lookup) says wanted = absurd wanted
sell_asked order name rows ask_words.Export says wanted = absurd wanted

-- they ask for nothing else, wherever the program is run
pub sells_again : (words : List Text) (order : Order) → WordsRequest words (requests.Sell order) → (asked : Asked) → AskFor words asked
    → Requests asked (requests.Sell order)
sells_again words order wanted asked for =
    requested_again (requests.Sell order) (selling order) (sells_of_office order) (only_sells order) (sell_asked order) words wanted asked for

-- so words say one order
one_requested : (place : Place) (ask : AskWords) (a b : Order) → AsksFile place ask (requests.Sell a) → AsksFile place ask (requests.Sell b) → a ≡ b
one_requested (File file) (ask_words.Ask (Do request)) a b one other = let same : requests.Sell a ≡ requests.Sell b = one ∙ sym other in cc
one_requested (File file) (ask_words.Ask (Import kind csv)) a b (rows, one) other = absurd (cc)
one_requested (File file) (ask_words.Ask (Receipt number)) a b one other = absurd (cc)
one_requested (File file) (ask_words.Ask (Look lookup)) a b one other = absurd one
one_requested (File file) (ask_words.Import kind csv) a b (rows, one) other = absurd (cc)
one_requested (File file) (ask_words.List lookup) a b one other = absurd one
one_requested (File file) ask_words.Export a b one other = absurd one
one_requested (Desk desk) ask a b one other = absurd one

both_requested : (asked : Asked) (a b : Order) → Requests asked (requests.Sell a) → Requests asked (requests.Sell b) → a ≡ b
both_requested (asks.Office it) a b one other = one_requested it.place it.ask a b one other
both_requested asked a b one other = absurd one

-- words request one order
pub same_order : (words : List Text) (a b : Order) → WordsRequest words (requests.Sell a) → WordsRequest words (requests.Sell b) → a ≡ b
same_order words a b one (asked, for, wanted) = both_requested asked a b (sells_again words a one asked for) wanted
