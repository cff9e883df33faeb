-- A sale that a desk told is one that the desk's life handed out.
use Rattle.std.proofs.Common.{◌≡◌, ◌⊎◌, ℕ, pos, List, Result, Ok, Err, inl, inr, refl, sym, subst, arith}
use Rattle.std.specs.Borrow.{Bor}
use Rattle.std.specs.Prelude.{Contains}
use Rattle.std.proofs.lemmas.List.Elements.{Contains-push}
use Rattle.sts_fields.specs.Moment.{IsMoment}
use Rattle.papers.specs.Receipt.{receipt_of}
use Rattle.office_rules.specs.Office.{IsOffice}
use Rattle.office_rules.specs.declared.decision.answer.Answer.{Answer}
use Rattle.office_rules.specs.declared.decision.answer.Answer.TheVariants as answers
use Rattle.office_rules.specs.declared.decision.refusal.Refusal.{Refusal}
use Rattle.office_rules.specs.declared.decision.request.Order.{Order}
use Rattle.office_rules.specs.declared.decision.request.Request.TheVariants as requests
use Rattle.office_rules.specs.declared.office.sale.Sale.{Sale}
use Rattle.vend_core.specs.Law.Life.{HandsOut, IsLife, Life}
use Rattle.vend_core.specs.Law.LifeLaws.{extended_by}
use Rattle.asks.specs.declared.ask.Ask.{Ask}
use Rattle.asks.specs.declared.ask.Ask.TheVariants.{Do, Look, Receipt}
use Rattle.asks.specs.declared.lookup.Lookup.TheVariants as lookups
use Rattle.book_states.specs.declared.lookup.Found.{Found}
use Rattle.book_states.specs.declared.lookup.Found.TheVariants as found
use Rattle.conversation.specs.Exchanges.{Timed}
use Rattle.desk.specs.Answering.{IsServed, life_serves}
use Rattle.desk_messages.specs.declared.reply.form.Form.{Form}
use Rattle.desk_messages.specs.declared.reply.form.Form.TheVariants as forms
use Rattle.desk_messages.specs.declared.reply.outcome.Outcome.{Outcome}
use Rattle.desk_messages.specs.declared.reply.outcome.Outcome.TheVariants as outcomes
use Rattle.desk_client.specs.Alike.{TellAlike}
use Rattle.desk_client.specs.Reply.{IsReply}
use Rattle.desk_client.specs.Sent.{CanSend, ask_text, wanted_by}
use Rattle.desk_client.specs.Tells.{as_told}
use Rattle.desk_client.specs.Told.{IsGrantOf}
use Rattle.desk_client.specs.declared.told.Granted.TheVariants as granted
use Rattle.desk_client.specs.declared.told.Told.{Told}
use Rattle.desk_client.specs.declared.told.Told.TheVariants as told
use Rattle.program_laws.specs.AtDesk.{AsksNoHealth, IsAnsweredAt, IsSoldIn}
use Rattle.program_laws.specs.SalesTold.{sales_came}
use Rattle.program_laws.proofs.DeskLemmas.{HandingLaws, served_hands}
use Rattle.program_laws.proofs.AtDeskLemmas.OneLemmas.{DeskLaws, alike_came, came_of, may_be, served_at}
use Rattle.program_laws.proofs.AtDeskLemmas.RuleLemmas.{MayReplyTo}
use Rattle.program_laws.proofs.AtDeskLemmas.TellableLemmas.{told_look, told_of, told_reply}

-- the sale that is told
abbrev it_tells : Sale → Told
it_tells s = told.Granted (granted.Sale s)

-- the reply that told a sale has it
told_as : (s : Sale) (form : Form) (r : Result Answer Refusal) → TellAlike (it_tells s) (told_reply form r)
    → (t : Sale) × (as_told t ≡ s) × ((r ≡ Ok (answers.Sold t)) ⊎ (r ≡ Ok (answers.Reprinted t)))
told_as s forms.Json (Ok (answers.Sold t)) alike = (t, sym alike, inl refl)
told_as s forms.Json (Ok (answers.Reprinted t)) alike = (t, sym alike, inr refl)
told_as s forms.Paper (Ok (answers.Sold t)) alike = absurd alike
told_as s forms.Paper (Ok (answers.Reprinted t)) alike = absurd alike
told_as s form (Ok answer) alike = absurd alike
told_as s form (Err refusal) alike = absurd alike

-- what was found and told as a sale is one
found_as : (s : Sale) (form : Form) (r : Result Found Refusal) → TellAlike (it_tells s) (told_look form r)
    → (t : Sale) × (as_told t ≡ s) × (r ≡ Ok (found.Sale t))
found_as s forms.Json (Ok (found.Sale t)) alike = (t, sym alike, refl)
found_as s forms.Paper (Ok (found.Sale t)) alike = absurd alike
found_as s form (Ok it) alike = absurd alike
found_as s form (Err refusal) alike = absurd alike

-- so what came has the sale that is told of it
came_as : (s : Sale) (outcome : Outcome) → TellAlike (it_tells s) (told_of outcome) → (t : Sale) × (as_told t ≡ s) × Contains (sales_came outcome) t
came_as s (outcomes.Replied form r) alike =
    let there = told_as s form r alike in
    (there.0, there.1, stands there.0 r there.2)
  where
    stands : (t : Sale) (r : Result Answer Refusal) → (r ≡ Ok (answers.Sold t)) ⊎ (r ≡ Ok (answers.Reprinted t))
        → Contains (sales_came (outcomes.Replied form r)) t
    stands t r (inl is) = subst (λ r. Contains (sales_came (outcomes.Replied form r)) t) (sym is) (0, omega arith, refl)
    stands t r (inr is) = subst (λ r. Contains (sales_came (outcomes.Replied form r)) t) (sym is) (0, omega arith, refl)
came_as s (outcomes.Found form r) alike =
    let there = found_as s form r alike in
    (there.0, there.1, subst (λ r. Contains (sales_came (outcomes.Found form r)) there.0) (sym there.2) (0, omega arith, refl))
came_as s (outcomes.Faulty fault) alike = absurd alike
came_as s (outcomes.Refused fault) alike = absurd alike

-- a sale is not what a health grants
sale_asked : (s : Sale) (ask : Ask) → IsGrantOf (wanted_by ask) (granted.Sale s) → AsksNoHealth ask
sale_asked s (Look lookups.Health) grants = grants
sale_asked s ask grants = tt

module _ (laws : DeskLaws) (handing : HandingLaws) (moment : ℕ) (is_moment : IsMoment moment) (old new : Timed Life) (came : List ℕ)
    (opening : IsOffice old.0.opening) (life : IsLife new.0) where
  -- a sale that is told was handed out
  pub sale_handed : (ask : Ask) (s : Sale) → CanSend ask → IsAnsweredAt (pos moment) old (ask_text ask) came new → IsReply (wanted_by ask) came (it_tells s)
      → (t : Sale) × (as_told t ≡ s) × HandsOut new.0 t
  sale_handed ask s can at is =
      let c = came_of laws ask (pos moment) old new came can at in
      let none = sale_asked s ask is.tellable.1 in
      let there = came_as s c.outcome (alike_came laws ask none can.askable moment is_moment old new came (it_tells s) opening life c is) in
      let serves = served_at laws ask can.askable moment is_moment old new came c in
      (there.0, there.1, served_hands handing there.0 moment ask c.outcome old.0 new.0 serves there.2)

  -- that of an order was sold for it
  pub sale_sold : (order : Order) (s : Sale) → CanSend (Do (requests.Sell order)) → IsAnsweredAt (pos moment) old (ask_text (Do (requests.Sell order))) came new
      → IsReply (wanted_by (Do (requests.Sell order))) came (it_tells s)
      → (t : Sale) × (as_told t ≡ s) × IsSoldIn new.0 order t
  sale_sold order s can at is =
      let ask = Do (requests.Sell order) in
      let c = came_of laws ask (pos moment) old new came can at in
      by_reply c.outcome (served_at laws ask can.askable moment is_moment old new came c)
      (alike_came laws ask tt can.askable moment is_moment old new came (it_tells s) opening life c is)
    where
      only_sold : (t : Sale) (r : Result Answer Refusal) → (r ≡ Ok (answers.Sold t)) ⊎ (r ≡ Ok (answers.Reprinted t))
          → MayReplyTo (requests.Sell order) r → r ≡ Ok (answers.Sold t)
      only_sold t r (inl is) may = is
      only_sold t r (inr is) may = absurd (subst (MayReplyTo (requests.Sell order)) is may)

      by_reply : (outcome : Outcome) → IsServed life_serves moment (Do (requests.Sell order)) outcome old.0 new.0 → TellAlike (it_tells s) (told_of outcome)
          → (t : Sale) × (as_told t ≡ s) × IsSoldIn new.0 order t
      by_reply outcome (r, same, (request, stamped, goes)) alike =
          let there = told_as s forms.Json r (subst (λ x. TellAlike (it_tells s) (told_of x)) same alike) in
          let may = may_be laws old.0 new.0 moment (requests.Sell order) r life opening (request, stamped, goes) in
          let sold = only_sold there.0 r there.2 may.0 in (
            there.0,
            there.1,
            (
              request,
              stamped.for_request,
              subst (λ (l : Life). Contains l.exchanges (record { request = request; reply = Ok (answers.Sold there.0) })) (sym goes)
                  (subst (λ (told : Result Answer Refusal). Contains (extended_by old.0 request r).exchanges (record { request = request; reply = told })) sold
                  (Contains-push old.0.exchanges (record { request = request; reply = r }))),
            ),
          )

  -- and a receipt that is told is that of a sale that was handed out
  pub receipt_handed : (number : ℕ) (text : Bor (List ℕ)) → CanSend (Receipt number) → IsAnsweredAt (pos moment) old (ask_text (Receipt number)) came new
      → IsReply (wanted_by (Receipt number)) came (told.Granted (granted.Paper text))
      → (t : Sale) × (t.number ≡ number) × (text.now ≡ receipt_of t) × HandsOut new.0 t
  receipt_handed number text can at is =
      let ask = Receipt number in
      let c = came_of laws ask (pos moment) old new came can at in
      by_reply c.outcome (served_at laws ask can.askable moment is_moment old new came c)
      (alike_came laws ask tt can.askable moment is_moment old new came (told.Granted (granted.Paper text)) opening life c is)
    where
      reprinted : (r : Result Answer Refusal) → MayReplyTo (requests.Reprint number) r → TellAlike (told.Granted (granted.Paper text)) (told_reply forms.Paper r)
          → (t : Sale) × (t.number ≡ number) × (text.now ≡ receipt_of t) × (r ≡ Ok (answers.Reprinted t))
      reprinted (Ok (answers.Reprinted t)) may alike = (t, may, alike, refl)
      reprinted (Ok answer) may alike = absurd may
      reprinted (Err refusal) may alike = absurd alike

      by_reply : (outcome : Outcome) → IsServed life_serves moment (Receipt number) outcome old.0 new.0
          → TellAlike (told.Granted (granted.Paper text)) (told_of outcome)
          → (t : Sale) × (t.number ≡ number) × (text.now ≡ receipt_of t) × HandsOut new.0 t
      by_reply outcome (r, same, replies) alike =
          let may = may_be laws old.0 new.0 moment (requests.Reprint number) r life opening replies in
          let there = reprinted r may.0 (subst (λ x. TellAlike (told.Granted (granted.Paper text)) (told_of x)) same alike) in (
            there.0,
            there.1,
            there.2,
            served_hands handing there.0 moment (Receipt number) outcome old.0 new.0 (r, same, replies)
                (subst (λ x. Contains (sales_came x) there.0) (sym same)
                (subst (λ r. Contains (sales_came (outcomes.Replied forms.Paper r)) there.0) (sym there.3) (0, omega arith, refl))),
          )
