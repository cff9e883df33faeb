-- What a run sells that nobody sold before.
use Rattle.std.proofs.Common.{◌≡◌, ◌∙◌, ◌++◌, ℕ, Bool, true, false, List, [], ◌∷◌, length, Option, None, Some, Result, Ok, Err, inl, inr, refl, sym, ap, subst}
use Rattle.std.specs.Prelude.{◌&&◌, ◌==◌, if◌then◌else◌, bytes_eq}
use Rattle.sqlite_disk.specs.declared.Disk as disk
use Rattle.command_line.specs.Transform.{forward_of}
use Rattle.office_commands.specs.office.Served.{TellsReply}
use Rattle.office_rules.specs.Decision.{MeterAccount, account_of, decision_of, sell_once, unchanged}
use Rattle.office_rules.specs.Decision.Fold.{reply, reply_of}
use Rattle.office_rules.specs.Office.{Office}
use Rattle.office_rules.specs.Office.Lookup.{open_shift, sale_of_ref}
use Rattle.office_rules.specs.declared.decision.answer.Answer.{Answer}
use Rattle.office_rules.specs.declared.decision.answer.Answer.TheVariants.{Sold}
use Rattle.office_rules.specs.declared.decision.change.Change.{Change}
use Rattle.office_rules.specs.declared.decision.refusal.Refusal.{Refusal}
use Rattle.office_rules.specs.declared.decision.refusal.Refusal.TheVariants.{RefReused}
use Rattle.office_rules.specs.declared.decision.request.Order.{Order}
use Rattle.office_rules.specs.declared.decision.request.Request.{Request}
use Rattle.office_rules.specs.declared.decision.request.Request.TheVariants.{Sell}
use Rattle.office_rules.specs.declared.decision.request.Stamped.{Stamped}
use Rattle.office_rules.specs.declared.office.sale.Sale.{Sale}
use Rattle.office_rules.specs.declared.office.shift.Shift.{Shift}
use Rattle.program_laws.specs.runs.EachRun.{KeepsEachRun}
use Rattle.program_laws.specs.runs.Here.{Here, use_of}
use Rattle.program_laws.specs.runs.Steps.{AreSoldFor, AsksIn, Goes, LivesIn}
use Rattle.program_laws.specs.runs.Uses.{IsAskedLife, RunQuestion, RunUse, asking_life, connected, idle_life, many_lives, no_life}
use Rattle.program_laws.specs.runs.Uses.{reading_life, unconnected, unseen}
use Rattle.program_laws.specs.runs.Words.{WordsRequest}
use Rattle.sts_fields.specs.Text.{Text}
use Rattle.sts_token.specs.Token.{BlockFunction}
use Rattle.vend_core.specs.Law.Life.{IsLife, LeadTo, Life, present}
use Rattle.vend_core.specs.Law.LifeLaws.{extended_by, opened}
use Rattle.vend_ports.specs.declared.command_end.CommandEnd.{CommandEnd}
use Rattle.vend_ports.specs.declared.command_end.CommandEnd.TheVariants.{Done, Refused}
use Rattle.vend_ports.specs.print.Told.{Outputs}
use Rattle.law_witnesses.specs.Runs.{IsRunOf}
use Rattle.law_witnesses.proofs.QuoteLemmas.{by_rules, granted, sold_new}
use Rattle.law_witnesses.proofs.RunLemmas.{refused}

-- ---- an order is answered by a sale

-- the sale of an order that comes again
again_sold : (same : Bool) (first : Sale) (change : Change) → (if same then unchanged (Sold first) else Err RefReused) ≡ Ok change
    → change.answer ≡ Sold first
again_sold true first change is = cc
again_sold false first change is = absurd (cc)

-- what is granted to an order is its sale, an old one or a new one
sale_granted : (forward : BlockFunction) (moment nibble : ℕ) (order : Order) (there : Option Sale) (shift : Option Shift)
    (account : Option MeterAccount) (count : ℕ) (change : Change)
    → sell_once forward moment nibble order there shift account count ≡ Ok change → (s : Sale) × (change.answer ≡ Sold s)
sale_granted forward moment nibble order None shift account count change is =
    let new = sold_new forward moment nibble order shift account count change is in (new.1.0, new.1.2)
sale_granted forward moment nibble order (Some first) shift account count change is =
    (first, again_sold (bytes_eq first.meter order.meter && (first.tender == order.tender)) first change is)

-- what an office answers to an order is a sale
sale_answered : (forward : BlockFunction) (o : Office) (at : Stamped) (order : Order) (answer : Answer) → at.request ≡ Sell order
    → Ok answer ≡ reply forward o at → (s : Sale) × (answer ≡ Sold s)
sale_answered forward o at order answer asks given =
    let decide : Request → Result Change Refusal = λ r. decision_of forward o at.moment at.nibble r in
    let decided : Ok answer ≡ reply_of (decide (Sell order)) = given ∙ ap (λ (r : Request). reply_of (decide r)) asks in
    let made = granted (decide (Sell order)) answer decided in
    let sale = sale_granted forward at.moment at.nibble order (sale_of_ref o order.operator order.order_ref) (open_shift o order.operator)
    (account_of o order.meter at.moment) (length o.sales) made.0 made.1 in
    (sale.0, sym made.2 ∙ sale.1)

-- ---- the life of a request

module _ {M : Type 0} {g : disk.Ghosts M} where
  -- a run that asked something lived one life more, which was asked that
  asked_life : (made : RunUse g) (q : RunQuestion) (before lives : List Life) → AsksIn made q → LivesIn made before lives
      → (life : Life) × IsAskedLife q life × (lives ≡ life ∷ [])
  asked_life unseen q before lives asks lived = absurd asks
  asked_life (unconnected found left) q before lives asks lived = absurd asks
  asked_life (connected image no_life last) q before lives asks lived = absurd asks
  asked_life (connected image (idle_life transform) last) q before lives asks lived = absurd asks
  asked_life (connected image (reading_life moment reading) last) q before lives asks lived = absurd asks
  asked_life (connected image (asking_life asked) last) q before lives asks lived =
      let Asked : RunQuestion → Type 0 = λ r. (life : Life) × IsAskedLife r life × (lives ≡ life ∷ []) in
      subst Asked (sym asks) lived
  asked_life (connected image (many_lives way forward count door answers last_door left) last) q before lives asks lived = absurd asks

-- the last of some lives is a life
last_life : (start : Office) (lives : List Life) (life : Life) (o : Office) → LeadTo start (lives ++ life ∷ []) o → IsLife life
last_life start [] life o led = led.0
last_life start (first ∷ later) life o (is, opens, (left, may, led)) = last_life left later life o led

-- a life that was asked to sell an order, and answered, sold
sold_in_life : (life : Life) (q : RunQuestion) (order : Order) (answer : Answer) → IsLife life → IsAskedLife q life → q.request ≡ Sell order
    → q.reply ≡ Ok answer → (s : Sale) × (q.reply ≡ Ok (Sold s))
sold_in_life life q order answer is asked asks answers =
    let old = opened (forward_of q.transform) life.opening in
    let Is : Life → Type 0 = λ l. IsLife l in
    let Replied : Result Answer Refusal → Type 0 = λ r. IsLife (extended_by old asked.at r) in
    let extended : Replied q.reply = subst Is asked.life_is is in
    let ruled = by_rules old asked.at answer (subst Replied answers extended) in
    let sale = sale_answered old.forward (present old) asked.at order answer (asked.for_request ∙ asks) ruled in
    (sale.0, answers ∙ ap (λ (a : Answer). Ok a) sale.1)

-- what a reply that ends a command as done answers
answer_of : (reply : Result Answer Refusal) (o : Outputs) (end : CommandEnd) → TellsReply reply o end → end ≡ Done
    → (answer : Answer) × (reply ≡ Ok answer)
answer_of (Ok answer) o end told done = (answer, refl)
answer_of (Err refusal) o end told done = absurd (let end_is : end ≡ Refused = told.2 in cc)

-- ---- a run

-- a run that ends as done by words that say an order sold it, whether it was sold before or not
pub sells_first : {P D R W : Type 0} (here : Here P D R W) (law : KeepsEachRun here) {ports : P} {words : List Text} {end : CommandEnd}
    {back : Option (here.M × here.M)} {printed : List ℕ} (it : IsRunOf here ports words end back printed) (start : Office) (lives more : List Life)
    (order : Order) → Goes here start it.run lives more → WordsRequest words (Sell order) → end ≡ Done
    → (s : Sale) × AreSoldFor (lives ++ more) order s
sells_first here law {words = words} it start lives more order goes says is_done =
    let Says : List Text → Type 0 = λ ws. WordsRequest ws (Sell order) in
    let done : it.run.end ≡ Done = it.ended ∙ is_done in
    elim (law.sells it.run order (subst Says (sym it.by_words) says)) [
      | inl asked ↦
          let q = asked.0 in
          let answered = answer_of q.reply it.run.o it.run.end (law.told it.run q asked.1) done in
          let lived = asked_life (use_of here it.run) q lives more asked.1 goes.lived in
          let Led : List Life → Type 0 = λ ls. LeadTo start (lives ++ ls) goes.lead.0 in
          let is = last_life start lives lived.0 goes.lead.0 (subst Led lived.2 goes.lead.1) in
          let sale = sold_in_life lived.0 q order answered.0 is lived.1 asked.2 answered.1 in
          (sale.0, goes.sold q order sale.0 asked.1 asked.2 sale.1)
      | inr none ↦ absurd (let end_is : it.run.end ≡ Refused = refused it.run.o it.run.end none in cc)
    ]
