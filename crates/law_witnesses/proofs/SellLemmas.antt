-- A `sell` of an order that was sold before.
use Rattle.std.proofs.Common.{◌≡◌, ◌∙◌, ℕ, Result, Ok, Err, ap}
use Rattle.std.specs.Prelude.{Contains}
use Rattle.books.specs.Keeps.{Seen}
use Rattle.desk_client.specs.Answers.{IsSaleFor}
use Rattle.office_rules.specs.Decision.Fold.{reply, step}
use Rattle.office_rules.specs.Office.{IsOffice, Office}
use Rattle.office_rules.specs.declared.decision.answer.Answer.{Answer}
use Rattle.office_rules.specs.declared.decision.answer.Answer.TheVariants.{Sold}
use Rattle.office_rules.specs.declared.decision.refusal.Refusal.{Refusal}
use Rattle.office_rules.specs.declared.decision.refusal.Refusal.TheVariants.{RefReused}
use Rattle.office_rules.specs.declared.decision.request.Order.{Order}
use Rattle.office_rules.specs.declared.decision.request.Request.TheVariants.{Sell}
use Rattle.office_rules.specs.declared.decision.request.Stamped.{Stamped}
use Rattle.office_rules.specs.declared.office.sale.Sale.{Sale}
use Rattle.papers.specs.Receipt.{receipt_of}
use Rattle.program_laws.specs.Selling.{HasSold}
use Rattle.sts_fields.specs.Text.{Text}
use Rattle.sts_token.specs.Token.{BlockFunction}
use Rattle.vend_core.specs.Law.OfficeLaws.{IsSameOrder, WasSold}
use Rattle.vend_ports.specs.print.Told.{Outputs}
use Rattle.law_witnesses.specs.Printed.{HasPrinted}
use Rattle.law_witnesses.proofs.PrintLemmas.{printed_is}

-- what an office replies to an order that comes again
abbrev pub RepliesAgain : Type 0
RepliesAgain = (forward : BlockFunction) (o : Office) (at : Stamped) (order : Order) (first : Sale) → IsOffice o → at.request ≡ Sell order
    → WasSold o order first
    → (step forward o at ≡ o) × (IsSameOrder order first → reply forward o at ≡ Ok (Sold first))
    × (¬ IsSameOrder order first → reply forward o at ≡ Err RefReused)

-- one reply tells one sale
same_sold : (a b : Sale) (told : Result Answer Refusal) → told ≡ Ok (Sold a) → told ≡ Ok (Sold b) → a ≡ b
same_sold a b told one other = cc

-- it printed the receipt of the sale that stands for it
pub printed_again : RepliesAgain → {Did : Outputs → Type 0} (printed : Text) (it : HasPrinted Did printed) (forward : BlockFunction) (o : Office)
    (order : Order) (moment : ℕ) (books : Seen) (s : Sale) → IsOffice o → Contains o.sales s → IsSaleFor order s
    → HasSold forward o order moment it.o books → printed ≡ receipt_of s
printed_again again printed it forward o order moment books s is stands is_for sold =
    let replied = again forward o sold.at order s is sold.ordered.for_order (record {
      stands = stands;
      operator = is_for.operator;
      order_ref = is_for.order_ref;
    }) in
    let told : reply forward o sold.at ≡ Ok (Sold s) = replied.1 (is_for.meter, is_for.tender) in
    let one = same_sold sold.sale s (reply forward o sold.at) sold.by_rules told in
    printed_is printed (receipt_of sold.sale) it sold.printed ∙ ap receipt_of one
