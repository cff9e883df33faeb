-- What a desk's answer to an ask says, and that what is printed of it has no other sales.
use Rattle.std.proofs.Common.{◌≡◌, ◌∙◌, ℕ, ℤ, pos, Bool, false, List, [], Option, Some, Result, Ok, Err, inl, inr, refl, sym, ap, subst, arith}
use Rattle.std.specs.Prelude.{⊤, Contains}
use Rattle.std.proofs.lemmas.List.Elements.{Contains-append_left, Contains-push}
use Rattle.sts_fields.specs.Moment.{IsMoment, first_moment}
use Rattle.papers.specs.declared.file_kind.FileKind.{FileKind}
use Rattle.papers.specs.declared.row_fault.RowFault.{RowFault}
use Rattle.papers.specs.declared.row_fault.RowFault.TheVariants as row_faults
use Rattle.office_rules.specs.Office.{IsOffice}
use Rattle.office_rules.specs.declared.decision.answer.Answer.{Answer}
use Rattle.office_rules.specs.declared.decision.answer.Answer.TheVariants as answers
use Rattle.office_rules.specs.declared.decision.refusal.Refusal.{Refusal}
use Rattle.office_rules.specs.declared.decision.refusal.Refusal.TheVariants.{ImportRow}
use Rattle.office_rules.specs.declared.decision.request.Order.{Order}
use Rattle.office_rules.specs.declared.decision.request.Request.{Request}
use Rattle.office_rules.specs.declared.decision.request.Request.TheVariants as requests
use Rattle.office_rules.specs.declared.office.row.Row.{Row}
use Rattle.office_rules.specs.declared.office.sale.Sale.{Sale}
use Rattle.vend_core.specs.Law.Life.{IsLife, Life}
use Rattle.asks.specs.Ask.{Asks, message_of, row_by}
use Rattle.asks.specs.declared.ask.Ask.{Ask}
use Rattle.asks.specs.declared.ask.Ask.TheVariants.{Do, Import, Look, Receipt}
use Rattle.asks.specs.declared.lookup.Lookup.{Lookup}
use Rattle.asks.specs.declared.lookup.Lookup.TheVariants as lookups
use Rattle.book_states.specs.declared.lookup.Found.{Found}
use Rattle.books.specs.Looking.{IsFoundAt}
use Rattle.conversation.specs.Exchanges.{MessageExchange, Timed, timed}
use Rattle.conversation.specs.message.Messages.{Message}
use Rattle.desk.specs.Answering.{Comes, IsImported, IsServed, LifeReplies, answers_by, life_serves}
use Rattle.desk_messages.specs.Meaning.{IsGiven, MessageAsks, MessageHasFault, lookup_form}
use Rattle.desk_messages.specs.declared.desk_fault.DeskFault.{DeskFault}
use Rattle.desk_messages.specs.declared.desk_fault.DeskFault.TheVariants as faults
use Rattle.desk_messages.specs.declared.reply.form.Form.TheVariants as forms
use Rattle.desk_messages.specs.declared.reply.outcome.Outcome.{Outcome}
use Rattle.desk_messages.specs.declared.reply.outcome.Outcome.TheVariants as outcomes
use Rattle.desk_messages.specs.reply.HttpDate.{moment_given}
use Rattle.desk_messages.specs.reply.Text.{reply_bytes_of, reply_to}
use Rattle.desk_client.specs.Reply.{reply_text}
use Rattle.desk_client.specs.Sent.{CanSend, wanted_by}
use Rattle.desk_client.specs.Start.{IsDated}
use Rattle.desk_client.specs.Tells.{Tells as OutcomeTells}
use Rattle.desk_client.specs.Told.{IsTellable}
use Rattle.desk_client.specs.declared.told.Told.{Told}
use Rattle.desk_client.specs.declared.told.Told.TheVariants as told
use Rattle.desk_client.proofs.TellsLemmas.{date_given, given_dated, says}
use Rattle.desk_commands.specs.AskedOfDesk.{TellsTold}
use Rattle.vend_ports.specs.print.Printed.{clock_line, refusal_line}
use Rattle.office_commands.specs.office.Served.{TellsReply}
use Rattle.vend_ports.specs.print.Told.{IsTold, Outputs}
use Rattle.vend_ports.specs.declared.command_end.CommandEnd.{CommandEnd}
use Rattle.vend_ports.specs.declared.command_end.CommandEnd.TheVariants.{Refused}
use Rattle.program_laws.specs.AtDesk.{AsksNoHealth, IsAskedByOne, IsSoldIn}
use Rattle.program_laws.specs.SalesTold.{ExchangeTells, sales_came, sales_found}
use Rattle.program_laws.specs.runs.Asked.{PrintsOfDesk, PrintsSaleOrWhy}
use Rattle.program_laws.specs.runs.Asked.PrintsOfDesk.{a_find, a_reply, nothing, totals}
use Rattle.program_laws.proofs.LookupLemmas.{look_prints}
use Rattle.program_laws.proofs.AskedLemmas.LifeLemmas.{GoesFrom}
use Rattle.program_laws.proofs.AtDeskLemmas.MeaningLemmas.{never_both, served}
use Rattle.program_laws.proofs.AtDeskLemmas.OneLemmas.{DeskLaws, has_body, may_be, what_came}
use Rattle.program_laws.proofs.AtDeskLemmas.PrintedLemmas.{prints_reply}
use Rattle.program_laws.proofs.AtDeskLemmas.RuleLemmas.{MayReplyTo}
use Rattle.program_laws.proofs.AtDeskLemmas.TellableLemmas.{told_look, told_of}

-- ---- a sale that is asked for

-- What is printed where one is: the receipt of one that the life sold for the order.
abbrev pub Sells : Ask → Life → Outputs → CommandEnd → Type 0
Sells (Do (requests.Sell order)) life o end = PrintsSaleOrWhy (IsSoldIn life order) o end
Sells ask life o end = ⊤

-- what prints nothing sells nothing
pub none_sells : (ask : Ask) (life : Life) (o : Outputs) (end : CommandEnd) (errors : List ℕ) → IsTold o [] errors Refused end → Sells ask life o end
none_sells (Do (requests.Sell order)) life o end errors is = inr (errors, is)
none_sells ask life o end errors is = tt

-- what a life sold it sold for good
pub sells_later : (ask : Ask) (before after : Life) (o : Outputs) (end : CommandEnd) → GoesFrom before after → Sells ask before o end → Sells ask after o end
sells_later (Do (requests.Sell order)) before after o end (more, goes) (inl (s, prints, (at, asks, there))) = inl (
  s,
  prints,
  (
    at,
    asks,
    subst (λ (l : Life). Contains l.exchanges (record { request = at; reply = Ok (answers.Sold s) })) (sym goes)
        (Contains-append_left before.exchanges more (record { request = at; reply = Ok (answers.Sold s) }) there),
  ),
)
sells_later (Do (requests.Sell order)) before after o end goes (inr why) = inr why
sells_later ask before after o end goes sells = tt

-- the reply to an order is printed as its sale, or as why there is none
order_sells : (order : Order) (moment : ℕ) (old new : Life) (o : Outputs) (end : CommandEnd) (r : Result Answer Refusal)
    → LifeReplies moment (requests.Sell order) r old new → MayReplyTo (requests.Sell order) r → TellsReply r o end
    → PrintsSaleOrWhy (IsSoldIn new order) o end
order_sells order moment old new o end (Ok (answers.Sold s)) (at, stamped, goes) may (inl is) = inl (
  s,
  is,
  (
    at,
    stamped.for_request,
    subst (λ (l : Life). Contains l.exchanges (record { request = at; reply = Ok (answers.Sold s) })) (sym goes)
        (Contains-push old.exchanges (record { request = at; reply = Ok (answers.Sold s) })),
  ),
)
order_sells order moment old new o end (Ok (answers.Sold s)) replies may (inr (none, is)) = absurd none
order_sells order moment old new o end (Ok answer) replies may is = absurd may
order_sells order moment old new o end (Err refusal) replies may is = inr (refusal_line refusal, is)

request_sells : (request : Request) (moment : ℕ) (old new : Life) (o : Outputs) (end : CommandEnd) (r : Result Answer Refusal)
    → LifeReplies moment request r old new → MayReplyTo request r → TellsReply r o end → Sells (Do request) new o end
request_sells (requests.Sell order) moment old new o end r replies may is = order_sells order moment old new o end r replies may is
request_sells request moment old new o end r replies may is = tt

-- ---- what came of an ask is printed

module _ (laws : DeskLaws) (json : Bool) (moment : ℕ) (old new : Life) (opening : IsOffice old.opening) (life : IsLife new) (Tells : Sale → Type 0)
    (o : Outputs) (end : CommandEnd) where
  -- what is told of it is printed
  abbrev Prints : Ask → Outcome → Type 0
  Prints ask outcome = TellsTold json ask (told_of outcome) o end

  -- and its sales are those that this holds of
  abbrev Has : Outcome → Type 0
  Has outcome = (s : Sale) → Contains (sales_came outcome) s → Tells s

  import_printed : (kind : FileKind) (csv : List ℕ) (read : Result (List Row) RowFault) (outcome : Outcome) → IsImported life_serves moment read outcome old new
      → Prints (Import kind csv) outcome → Has outcome → PrintsOfDesk Tells o end
  import_printed kind csv (Ok rows) outcome (r, same, replies) printed has =
      a_reply r (prints_reply json (Import kind csv) (λ s. refl) (λ s none. none) o end forms.Json r (subst (Prints (Import kind csv)) same printed))
      (subst Has same has)
  import_printed kind csv (Err (row_faults.At row cause)) outcome (same, stays) printed has =
      nothing (refusal_line (ImportRow row cause)) (subst (Prints (Import kind csv)) same printed)
  import_printed kind csv (Err row_faults.Memory) outcome none printed has = absurd none

  look_printed : (lookup : Lookup) → IsAskedByOne json (Look lookup) → (r : Result Found Refusal) → IsFoundAt old moment lookup r
      → TellsTold json (Look lookup) (told_look (lookup_form lookup) r) o end → ((s : Sale) → Contains (sales_found r) s → Tells s) → PrintsOfDesk Tells o end
  look_printed (lookups.ShiftTotals number) one r found printed has =
      let all = look_prints old moment (lookups.ShiftTotals number) r found json o end one printed in
      totals number all.0 all.2
  look_printed lookup one r found printed has = a_find json lookup r (look_prints old moment lookup r found json o end one printed) has

  ask_printed : (ask : Ask) → IsAskedByOne json ask → (outcome : Outcome) → IsServed life_serves moment ask outcome old new → Prints ask outcome → Has outcome
      → PrintsOfDesk Tells o end × Sells ask new o end
  ask_printed (Import kind csv) one outcome (read, is, imported) printed has = (import_printed kind csv read outcome imported printed has, tt)
  ask_printed (Do request) one outcome (r, same, replies) printed has =
      let told_so = prints_reply json (Do request) (λ s. refl) (λ s none. none) o end forms.Json r (subst (Prints (Do request)) same printed) in
      let may = may_be laws old new moment request r life opening replies in
      (a_reply r told_so (subst Has same has), request_sells request moment old new o end r replies may.0 told_so)
  ask_printed (Receipt number) one outcome (r, same, replies) printed has = (
    a_reply r (prints_reply json (Receipt number) (λ s. refl) (λ s none. none) o end forms.Paper r (subst (Prints (Receipt number)) same printed))
        (subst Has same has),
    tt,
  )
  ask_printed (Look lookup) one outcome (r, same, (found, stays)) printed has =
      (look_printed lookup one r found (subst (Prints (Look lookup)) same printed) (subst Has same has), tt)

-- ---- what a desk's answer says

-- What it says, by its bytes; and whatever is printed of that is a reply or what was found, whose
-- sales the exchange told.
pub record DeskSays (ask : Ask) (old new : Life) (x : MessageExchange) : Type 0 where
  pub said : Told
  pub date : Option (List ℕ)
  pub is_date : IsDated date
  pub text : x.reply ≡ reply_text date said
  pub tellable : IsTellable (wanted_by ask) said
  pub prints : (json : Bool) (o : Outputs) (end : CommandEnd) → IsAskedByOne json ask → TellsTold json ask said o end
      → PrintsOfDesk (ExchangeTells old x new) o end × Sells ask new o end

module _ (laws : DeskLaws) (old new : Timed Life) (x : MessageExchange) (opening : IsOffice old.0.opening) (life : IsLife new.0) (ask : Ask) (can : CanSend ask)
    (asked : x.message ≡ message_of ask) where
  -- its message asks this
  its_asks : Asks x.message ask
  its_asks = subst (λ (m : Message). Asks m ask) (sym asked) (laws.own ask can.askable)

  asks_so : (now : Option ℤ) (moment : ℕ) → IsGiven now moment → MessageAsks x.message now moment ask
  asks_so now moment given = record { comes = given; asks = its_asks }

  -- so it has no fault but that the clock gave no moment
  only_clock : (fault : DeskFault) → MessageHasFault x.message x.now fault → fault ≡ faults.Clock
  only_clock faults.Clock has = refl
  only_clock faults.Body (kind, values, moment, none, given) =
      absurd (never_both laws.meaning x.message x.now moment ask faults.Body (asks_so x.now moment given) (kind, values, moment, none, given))
  only_clock faults.NoRoute (none, read) =
      absurd (never_both laws.meaning x.message (Some (pos first_moment)) first_moment ask faults.NoRoute
      (asks_so (Some (pos first_moment)) first_moment (record { given = refl; is_moment = (omega arith, omega arith) })) (none, (pos first_moment, refl)))
  only_clock (faults.Method allowed) (is, read) =
      absurd (never_both laws.meaning x.message (Some (pos first_moment)) first_moment ask (faults.Method allowed)
      (asks_so (Some (pos first_moment)) first_moment (record { given = refl; is_moment = (omega arith, omega arith) })) (is, (pos first_moment, refl)))

  -- its reply has its body, and closes nothing
  pub its_reply : (outcome : Outcome) → x.reply ≡ reply_to x.message.method (moment_given x.now) outcome x.message.closes
      → x.reply ≡ reply_bytes_of (moment_given x.now) outcome false
  its_reply outcome is =
      is ∙ ap (λ (m : Message). reply_to m.method (moment_given x.now) outcome m.closes) asked
      ∙ has_body (row_by ask).method (laws.own ask can.askable).method (moment_given x.now) outcome

  -- by which bytes it says something
  pub its_text : (outcome : Outcome) (u : Told) → OutcomeTells outcome u → x.reply ≡ reply_to x.message.method (moment_given x.now) outcome x.message.closes
      → x.reply ≡ reply_text (date_given x.now) u
  its_text outcome u tells is = its_reply outcome is ∙ says (moment_given x.now) outcome u tells

  -- What came of it: the ask was served at a moment, and the exchange tells the sales in that; or the clock gave no moment.
  pub record WasServed (outcome : Outcome) : Type 0 where
    pub moment : ℕ
    pub is_moment : IsMoment moment
    pub serves : IsServed life_serves moment ask outcome old.0 new.0
    pub tells : (s : Sale) → Contains (sales_came outcome) s → ExchangeTells old.0 x new.0 s

  pub data WhatCame (outcome : Outcome) : Type 0 where
    was_served : WasServed outcome → WhatCame outcome
    no_moment : outcome ≡ outcomes.Faulty faults.Clock → WhatCame outcome

  -- what came of it, as it was served, or as the clock gave no moment
  pub what_was : (outcome : Outcome) → Comes life_serves x.message x.now outcome old.0 new.0
      → x.reply ≡ reply_to x.message.method (moment_given x.now) outcome x.message.closes → WhatCame outcome
  what_was outcome (inl (fault, has, is, same)) reply =
      no_moment (is ∙ ap (λ (f : DeskFault). outcomes.Faulty f) (only_clock fault has))
  what_was outcome (inr (moment, another, asks, serves)) reply =
      let mine = asks_so x.now moment asks.comes in
      let goes = served laws.meaning x.message x.now moment ask mine outcome old.0 new.0 (inr (moment, another, asks, serves)) in
      was_served (record {
        moment = moment;
        is_moment = asks.comes.is_moment;
        serves = goes;
        tells = λ s there. record {
          served = record { moment = moment; ask = ask; outcome = outcome };
          asked = record { asks = mine; told = reply };
          goes = goes;
          has = there;
        };
      })

  -- where the clock gave no moment, the reply says so
  pub no_moment_text : (outcome : Outcome) → outcome ≡ outcomes.Faulty faults.Clock
      → x.reply ≡ reply_to x.message.method (moment_given x.now) outcome x.message.closes → x.reply ≡ reply_text (date_given x.now) told.NoMoment
  no_moment_text outcome is reply =
      its_text (outcomes.Faulty faults.Clock) told.NoMoment refl
      (reply ∙ ap (λ (y : Outcome). reply_to x.message.method (moment_given x.now) y x.message.closes) is)

  says_of : AsksNoHealth ask → (outcome : Outcome) → WhatCame outcome → x.reply ≡ reply_to x.message.method (moment_given x.now) outcome x.message.closes
      → DeskSays ask old.0 new.0 x
  says_of none outcome (was_served it) reply =
      let reads = what_came laws it.moment old.0 new.0 opening life ask none can.askable outcome it.serves in
      record {
        said = told_of outcome;
        date = date_given x.now;
        is_date = given_dated laws.dates x.now;
        text = its_text outcome (told_of outcome) reads.tells reply;
        tellable = reads.tellable;
        prints = λ json o end one printed.
            ask_printed laws json it.moment old.0 new.0 opening life (ExchangeTells old.0 x new.0) o end ask one outcome it.serves printed it.tells;
      }
  says_of none outcome (no_moment is) reply = record {
    said = told.NoMoment;
    date = date_given x.now;
    is_date = given_dated laws.dates x.now;
    text = no_moment_text outcome is reply;
    tellable = tt;
    prints = λ json o end one printed. (nothing clock_line printed, none_sells ask new.0 o end clock_line printed);
  }

  -- what a desk's answer to the ask says
  pub exchange_says : AsksNoHealth ask → timed (answers_by life_serves) old x new → DeskSays ask old.0 new.0 x
  exchange_says none ((outcome, comes, reply), clock) = says_of none outcome (what_was outcome comes reply) reply
