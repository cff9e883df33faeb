-- What comes of an ask.
use Rattle.std.proofs.Common.{◌≡◌, ℕ, List, Result, Ok, refl, ap, sym, subst}
use Rattle.papers.specs.declared.file_kind.FileKind.{FileKind}
use Rattle.papers.specs.declared.row_fault.RowFault.{RowFault}
use Rattle.office_rules.specs.declared.decision.answer.Answer.{Answer}
use Rattle.office_rules.specs.declared.decision.refusal.Refusal.{Refusal}
use Rattle.office_rules.specs.declared.decision.request.Request.{Request}
use Rattle.office_rules.specs.declared.decision.request.Request.TheVariants as requests
use Rattle.office_rules.specs.declared.office.row.Row.{Row}
use Rattle.book_states.specs.declared.lookup.Found.{Found}
use Rattle.asks.specs.declared.ask.Ask.{Ask}
use Rattle.asks.specs.declared.ask.Ask.TheVariants as asks
use Rattle.asks.specs.declared.lookup.Lookup.{Lookup}
use Rattle.desk_messages.specs.Meaning.{AreRead, lookup_form}
use Rattle.desk_messages.specs.declared.reply.form.Form.{Form}
use Rattle.desk_messages.specs.declared.reply.form.Form.TheVariants.{Json, Paper}
use Rattle.desk_messages.specs.declared.reply.outcome.Outcome.TheVariants.{Replied}
use Rattle.desk_messages.specs.declared.reply.outcome.Outcome.TheVariants as outcomes
use Rattle.desk.specs.Answering.{IsServed, Serving}

module _ {O : Type 0} (serves : Serving O) (moment : ℕ) (ask : Ask) (old new : O) where
  -- a request, on JSON
  pub served_do : (request : Request) (reply : Result Answer Refusal) → ask ≡ asks.Do request → serves.replies moment request reply old new
      → IsServed serves moment ask (Replied Json reply) old new
  served_do request reply same is = subst (λ a. IsServed serves moment a (Replied Json reply) old new) (sym same) (reply, refl, is)

  -- a reprint, on paper
  pub served_receipt : (sale : ℕ) (reply : Result Answer Refusal) → ask ≡ asks.Receipt sale
      → serves.replies moment (requests.Reprint sale) reply old new → IsServed serves moment ask (Replied Paper reply) old new
  served_receipt sale reply same is = subst (λ a. IsServed serves moment a (Replied Paper reply) old new) (sym same) (reply, refl, is)

  -- a look-up, in its form
  pub served_look : (lookup : Lookup) (form : Form) (found : Result Found Refusal) → ask ≡ asks.Look lookup → form ≡ lookup_form lookup
      → serves.finds moment lookup found old new → IsServed serves moment ask (outcomes.Found form found) old new
  served_look lookup form found same told is =
      subst (λ a. IsServed serves moment a (outcomes.Found form found) old new) (sym same) (found, ap (λ f. outcomes.Found f found) told, is)

-- a file that reads as rows is imported
module _ {O : Type 0} (serves : Serving O) (moment : ℕ) (kind : FileKind) (csv : List ℕ) (read : Result (List Row) RowFault) (is : AreRead kind csv read) where
  -- its rows are handed to the office
  pub imported : (rows : List Row) (reply : Result Answer Refusal) (old new : O) → read ≡ Ok rows
      → serves.replies moment (requests.Import rows) reply old new → IsServed serves moment (asks.Import kind csv) (Replied Json reply) old new
  imported rows reply old new same replies = (Ok rows, subst (λ r. AreRead kind csv r) same is, (reply, refl, replies))
