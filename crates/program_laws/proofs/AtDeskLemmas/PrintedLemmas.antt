-- What is printed of what a desk tells is what is printed of the same in a file.
use Rattle.std.proofs.Common.{◌≡◌, ◌∙◌, ℕ, Bool, [], ◌∷◌, Result, Ok, Err, inl, inr, refl, ap, subst}
use Rattle.papers.specs.Export.{export_of}
use Rattle.papers.specs.Receipt.{receipt_of}
use Rattle.office_rules.specs.declared.decision.answer.Answer.{Answer}
use Rattle.office_rules.specs.declared.decision.answer.Answer.TheVariants as answers
use Rattle.office_rules.specs.declared.decision.refusal.Refusal.{Refusal}
use Rattle.office_rules.specs.declared.office.sale.Sale.{Sale}
use Rattle.asks.specs.declared.ask.Ask.{Ask}
use Rattle.desk_messages.specs.declared.reply.form.Form.{Form}
use Rattle.desk_messages.specs.declared.reply.form.Form.TheVariants as forms
use Rattle.desk_client.specs.Alike.{TellAlike}
use Rattle.desk_client.specs.Tells.{as_told}
use Rattle.desk_client.specs.declared.told.Granted.{Granted}
use Rattle.desk_client.specs.declared.told.Granted.TheVariants as granted
use Rattle.desk_client.specs.declared.told.Told.{Told}
use Rattle.desk_client.specs.declared.told.Told.TheVariants as told
use Rattle.desk_commands.specs.AskedOfDesk.{NeedsRoom, SaleNeedsRoom, TellsGranted, TellsTold, granted_output, told_sale_text}
use Rattle.vend_ports.specs.declared.command_end.CommandEnd.{CommandEnd}
use Rattle.vend_ports.specs.declared.command_end.CommandEnd.TheVariants.{Done, Refused}
use Rattle.office_commands.specs.office.Served.{TellsAnswer, TellsReply}
use Rattle.vend_ports.specs.print.Printed.{refusal_line}
use Rattle.vend_ports.specs.print.Told.{IsTold, Outputs}
use Rattle.program_laws.proofs.AtDeskLemmas.TellableLemmas.{told_answer, told_reply, told_sale}

-- ---- the same is told

module _ (json : Bool) (ask : Ask) (o : Outputs) (end : CommandEnd) where
  -- a text that is the same is printed as well
  same_text : (g h : Granted) → granted_output json ask g ≡ granted_output json ask h → (NeedsRoom json ask g → NeedsRoom json ask h) → TellsGranted json ask g o end
      → TellsGranted json ask h o end
  same_text g h same room (inl is) = inl (subst (λ text. IsTold o text [] Done end) same is)
  same_text g h same room (inr (needs, is)) = inr (room needs, is)

  same_granted : (g h : Granted) → g ≡ h → TellsGranted json ask g o end → TellsGranted json ask h o end
  same_granted g h same is = subst (λ (g : Granted). TellsGranted json ask g o end) same is

  grant_alike : (g h : Granted) → TellAlike (told.Granted g) (told.Granted h) → TellsGranted json ask g o end → TellsGranted json ask h o end
  grant_alike granted.Done granted.Done same is = is
  grant_alike (granted.Imported n) (granted.Imported m) same is =
      same_granted (granted.Imported n) (granted.Imported m) (ap (λ (n : ℕ). granted.Imported n) same) is
  grant_alike (granted.Withdrawn n) (granted.Withdrawn m) same is =
      same_granted (granted.Withdrawn n) (granted.Withdrawn m) (ap (λ (n : ℕ). granted.Withdrawn n) same) is
  grant_alike (granted.Shift n) (granted.Shift m) same is = same_granted (granted.Shift n) (granted.Shift m) (ap (λ (n : ℕ). granted.Shift n) same) is
  grant_alike (granted.Sale s) (granted.Sale t) same is = same_granted (granted.Sale s) (granted.Sale t) (ap (λ s. granted.Sale s) same) is
  grant_alike (granted.Meter s) (granted.Meter t) same is = same_granted (granted.Meter s) (granted.Meter t) (ap (λ s. granted.Meter s) same) is
  grant_alike (granted.Quote s) (granted.Quote t) same is = same_granted (granted.Quote s) (granted.Quote t) (ap (λ s. granted.Quote s) same) is
  grant_alike (granted.Totals n s) (granted.Totals m t) (numbers, totals) is =
      same_granted (granted.Totals m s) (granted.Totals m t) (ap (λ s. granted.Totals m s) totals)
      (same_granted (granted.Totals n s) (granted.Totals m s) (ap (λ (n : ℕ). granted.Totals n s) numbers) is)
  grant_alike (granted.Paper s) (granted.Paper t) same is = same_text (granted.Paper s) (granted.Paper t) same (λ none. none) is
  grant_alike (granted.Page s) (granted.Page t) same is = same_text (granted.Page s) (granted.Page t) same (λ none. none) is
  grant_alike g h same is = absurd same

  -- what is told alike is printed alike
  pub tell_alike : (one other : Told) → TellAlike one other → TellsTold json ask one o end → TellsTold json ask other o end
  tell_alike (told.Granted g) (told.Granted h) same is = grant_alike g h same is
  tell_alike (told.Refused r) (told.Refused s) same is = subst (λ (r : Refusal). IsTold o [] (refusal_line r) Refused end) same is
  tell_alike told.NoMoment told.NoMoment same is = is
  tell_alike one other same is = absurd same

-- ---- a sale without its nibble

-- a receipt has no nibble in it
pub same_receipt : (s : Sale) → receipt_of (as_told s) ≡ receipt_of s
unfolding receipt_of
same_receipt s = refl

-- nor has an export of a sale
pub same_export : (header : Bool) (s : Sale) → export_of header (as_told s ∷ []) ≡ export_of header (s ∷ [])
unfolding export_of
same_export header s = refl

-- ---- replies

module _ (json : Bool) (ask : Ask) (sold : (s : Sale) → told_sale_text json ask s ≡ receipt_of s) (small : (s : Sale) → SaleNeedsRoom json ask s → ⊥)
    (o : Outputs) (end : CommandEnd) where
  prints_sale : (form : Form) (s : Sale) → TellsTold json ask (told_sale form s) o end → IsTold o (receipt_of s) [] Done end
  prints_sale forms.Json s (inl is) = subst (λ text. IsTold o text [] Done end) (sold (as_told s) ∙ same_receipt s) is
  prints_sale forms.Json s (inr (room, is)) = absurd (small (as_told s) room)
  prints_sale forms.Paper s (inl is) = is
  prints_sale forms.Paper s (inr (none, is)) = absurd none

  prints_answer : (form : Form) (answer : Answer) → TellsTold json ask (told_answer form answer) o end → TellsAnswer answer o end
  prints_answer form answers.Done is = is
  prints_answer form (answers.Imported n) is = is
  prints_answer form (answers.Withdrawn n) is = is
  prints_answer form (answers.Opened n) is = is
  prints_answer form (answers.Closed n) is = is
  prints_answer form (answers.Sold s) is = inl (prints_sale form s is)
  prints_answer form (answers.Reprinted s) is = inl (prints_sale form s is)
  prints_answer form (answers.Report shift sales) (inl is) = inl is
  prints_answer form (answers.Report shift sales) (inr (none, is)) = absurd none

  -- what is told of a reply is printed of it
  pub prints_reply : (form : Form) (r : Result Answer Refusal) → TellsTold json ask (told_reply form r) o end → TellsReply r o end
  prints_reply form (Ok answer) is = prints_answer form answer is
  prints_reply form (Err refusal) is = is
