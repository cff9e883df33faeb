-- What a command that asks a desk one thing prints is what it prints of the desk's office.
use Rattle.std.proofs.Common.{◌≡◌, ◌∙◌, ℕ, ℤ, pos, ◌+◌, ◌^◌, ◌<◌, ◌≤◌, Bool, true, false, List, [], ◌++◌, length, Option, Some, Result, Ok, Err, refl, sym, ap, subst, arith, append-nil, length-append}
use Rattle.std.specs.Prelude.{All, Contains, decimal}
use Rattle.std.proofs.lemmas.List.Elements.{All-contains, All-nil, All-weaker, Contains-push}
use Rattle.sts_fields.specs.Moment.{IsMoment}
use Rattle.sts_token.specs.Token.{BlockFunction, KeepsRange}
use Rattle.papers.specs.File.{Fields, header_of}
use Rattle.papers.specs.Import.{IsNoRow}
use Rattle.papers.specs.declared.file_kind.FileKind.{FileKind}
use Rattle.papers.specs.declared.row_fault.RowFault.{RowFault}
use Rattle.papers.specs.declared.row_fault.RowFault.TheVariants as row_faults
use Rattle.office_rules.specs.Decision.Fold.{after, reply, step}
use Rattle.office_rules.specs.Decision.Requests.{IsStamped}
use Rattle.office_rules.specs.Law.Handed.{sales_of}
use Rattle.vend_core.specs.Law.Life.{Exchange, IsLife, Life, acknowledges, present}
use Rattle.vend_core.specs.Law.LifeLaws.{extended_by}
use Rattle.vend_core.specs.Law.Reached.{IsPlausible}
use Rattle.office_rules.specs.Office.{IsOffice, Office}
use Rattle.office_rules.specs.declared.decision.answer.Answer.{Answer}
use Rattle.office_rules.specs.declared.decision.refusal.Refusal.{Refusal}
use Rattle.office_rules.specs.declared.decision.refusal.Refusal.TheVariants.{ImportRow}
use Rattle.office_rules.specs.declared.decision.row_cause.RowCause.{RowCause}
use Rattle.office_rules.specs.declared.decision.row_cause.RowCause.TheVariants as causes
use Rattle.office_rules.specs.declared.decision.request.Request.{Request}
use Rattle.office_rules.specs.declared.decision.request.Request.TheVariants as requests
use Rattle.office_rules.specs.declared.decision.request.Stamped.{Stamped}
use Rattle.office_rules.specs.declared.office.row.Row.{Row}
use Rattle.asks.specs.Ask.{Asks, IsAskable, message_of, row_by, row_method}
use Rattle.asks.specs.declared.ask.Ask.{Ask}
use Rattle.asks.specs.declared.ask.Ask.TheVariants.{Do, Import, Look, Receipt}
use Rattle.asks.specs.declared.endpoint.Grants.{Grants}
use Rattle.asks.specs.declared.lookup.Lookup.{Lookup}
use Rattle.asks.specs.declared.lookup.Lookup.TheVariants as lookups
use Rattle.book_states.specs.declared.lookup.Found.{Found}
use Rattle.books.specs.Looking.{IsFoundAt}
use Rattle.conversation.specs.Exchanges.{Timed}
use Rattle.conversation.specs.declared.message.method.Method.{Method}
use Rattle.conversation.specs.declared.message.method.Method.TheVariants.{Delete, Get, Head, Post}
use Rattle.conversation.specs.message.Messages.{BeginsMessage, Message}
use Rattle.conversation.proofs.ReadingLemmas.{message_unique}
use Rattle.desk.specs.Answering.{Comes, IsImported, IsServed, LifeReplies, life_serves}
use Rattle.desk_messages.specs.Meaning.{MessageAsks, MessageHasFault, lookup_form}
use Rattle.desk_messages.specs.declared.desk_fault.DeskFault.TheVariants as faults
use Rattle.desk_messages.specs.declared.reply.form.Form.{Form}
use Rattle.desk_messages.specs.declared.reply.form.Form.TheVariants as forms
use Rattle.desk_messages.specs.declared.reply.outcome.Outcome.{Outcome}
use Rattle.desk_messages.specs.declared.reply.outcome.Outcome.TheVariants as outcomes
use Rattle.desk_messages.specs.reply.HttpDate.{IsDateAt, http_date, moment_given}
use Rattle.desk_messages.specs.reply.Text.{reply_bytes_of, reply_to}
use Rattle.desk_client.specs.Alike.{TellAlike}
use Rattle.desk_client.specs.Reply.{IsReply, longest_reply_body, reply_text}
use Rattle.desk_client.specs.Sent.{CanSend, IsNoMoment, ask_text, wanted_by}
use Rattle.desk_client.specs.Start.{IsDated, head_end, start_text}
use Rattle.desk_client.specs.Tells.{Tells}
use Rattle.desk_client.specs.Told.{IsTellable, IsTellableRefusal, told_start, told_text}
use Rattle.desk_client.specs.declared.told.Told.{Told}
use Rattle.desk_client.specs.declared.told.Told.TheVariants as told
use Rattle.desk_client.proofs.HeadLemmas.{head_within, one_head}
use Rattle.desk_client.proofs.TellsLemmas.{date_given, given_dated, says}
use Rattle.program_laws.specs.AtDesk.{AsksNoHealth, IsAnsweredAt, IsAskedByOne, PrintsAdded, PrintsAsOnFile}
use Rattle.desk_commands.specs.AskedOfDesk.{TellsTold}
use Rattle.vend_ports.specs.declared.command_end.CommandEnd.{CommandEnd}
use Rattle.vend_ports.specs.declared.command_end.CommandEnd.TheVariants.{Refused}
use Rattle.vend_ports.specs.print.Printed.{clock_line}
use Rattle.vend_ports.specs.print.Told.{IsTold, Outputs}
use Rattle.program_laws.proofs.LookupLemmas.{look_prints, look_tellable}
use Rattle.program_laws.proofs.AtDeskLemmas.MeaningLemmas.{IsRead, MeansOne, idled, is_read, served}
use Rattle.program_laws.proofs.AtDeskLemmas.PrintedLemmas.{prints_reply, tell_alike}
use Rattle.program_laws.proofs.AtDeskLemmas.RuleLemmas.{MayReplyTo, by_rules, may_reply, present_before, present_is}
use Rattle.program_laws.proofs.AtDeskLemmas.TellableLemmas.{AreToldSales, FitsFile, RangeLaws, import_wanted, look_tells, look_wanted, no_health, reply_tells, sale_told, tellable_receipt, tellable_reply, told_look, told_of, told_reply}

-- what the laws of the crates below say
pub record DeskLaws : Type 0 where
  -- of an office
  pub along : (forward : BlockFunction) (o : Office) (ats : List Stamped) → IsOffice o → All IsStamped ats → KeepsRange forward → IsOffice (after forward o ats)
  pub one_step : (forward : BlockFunction) (o : Office) (at : Stamped) → IsOffice o → IsStamped at → KeepsRange forward → IsOffice (step forward o at)
  pub plausible : (forward : BlockFunction) (o : Office) (at : Stamped) → IsOffice o → IsStamped at → KeepsRange forward → IsPlausible o
      → IsPlausible (step forward o at)
  pub stand : (forward : BlockFunction) (o : Office) (at : Stamped) → All (Contains (step forward o at).sales) (sales_of (reply forward o at))
  pub ranges : RangeLaws
  -- of what messages ask, and what they mean
  pub own : (ask : Ask) → IsAskable ask → Asks (message_of ask) ask
  pub meaning : MeansOne
  -- of what a desk is sent, and what it replies
  pub sent : (ask : Ask) (rest : List ℕ) → CanSend ask → BeginsMessage (ask_text ask ++ rest) (message_of ask) rest
  pub outside : (ask : Ask) (second : ℤ) → IsAskable ask → IsNoMoment second → MessageHasFault (message_of ask) (Some second) faults.Clock
  pub dates : (moment : ℕ) → IsMoment moment → IsDateAt moment (http_date moment)
  pub alike : (asked : Grants) (text : List ℕ) (one other : Told) → IsReply asked text one → IsReply asked text other → TellAlike one other

-- ---- the reply

-- a reply is as long as its start, its length's digits, the end of its head and its body
pub reply_length : (d : Option (List ℕ)) (t : Told)
    → length (reply_text d t)
    ≡ length (start_text (told_start t)) + (length (decimal (length (told_text t))) + (length (head_end d) + length (told_text t)))
reply_length d t =
    omega (
      arith,
      length-append (start_text (told_start t)) (decimal (length (told_text t)) ++ (head_end d ++ told_text t)),
      length-append (decimal (length (told_text t))) (head_end d ++ told_text t),
      length-append (head_end d) (told_text t),
    )

-- two replies with one text have one body
pub same_body : (d f : Option (List ℕ)) (t u : Told) → IsDated d → IsDated f → length (told_text t) ≤ longest_reply_body
    → reply_text d t ≡ reply_text f u → length (told_text u) ≤ longest_reply_body
same_body d f t u is are short same =
    let most : length (told_text u) < 2 ^ 64 =
    omega (arith, head_within (told_start t) (length (told_text t)) d (told_text t) short is, short, ap length same, reply_length f u) in
    let heads =
    one_head (told_start t) (told_start u) (length (told_text t)) (length (told_text u)) d f (told_text t) (told_text u) (omega (arith, short)) most is are same in
    omega (arith, heads.1, short)

-- a message with the method of its row is none of HEAD, so its reply has its body
pub has_body : (method : Method) → method ≡ row_method method → (dated : Option ℕ) (outcome : Outcome)
    → reply_to method dated outcome false ≡ reply_bytes_of dated outcome false
has_body Get same dated outcome = refl
has_body Post same dated outcome = refl
has_body Delete same dated outcome = refl
has_body Head same dated outcome = let none : Head ≡ Get = same in absurd cc

-- what is asked by one message is no health
asks_none : (json : Bool) (ask : Ask) → IsAskedByOne json ask → AsksNoHealth ask
asks_none json (Look lookups.Health) one = one
asks_none json ask one = tt

-- what came of an ask is told as what is wanted
pub record Reads (ask : Ask) (outcome : Outcome) : Type 0 where
  pub tellable : IsTellable (wanted_by ask) (told_of outcome)
  pub tells : Tells outcome (told_of outcome)

reads_reply : (ask : Ask) (form : Form) (r : Result Answer Refusal) (outcome : Outcome) → outcome ≡ outcomes.Replied form r
    → IsTellable (wanted_by ask) (told_reply form r) → Reads ask outcome
reads_reply ask form r outcome is tellable = subst (Reads ask) (sym is) (record { tellable = tellable; tells = reply_tells form r })

-- rows that were read are not asked to be imported
fits_file : (request : Request) → IsAskable (Do request) → FitsFile request
fits_file (requests.Import rows) askable = absurd askable.body.1
fits_file request askable = tt

-- no file has more rows than these
pub few_rows : (kind : FileKind) (csv : List ℕ) (rows : List Row) → IsRead kind csv (Ok rows) → length rows ≤ 10000
few_rows kind csv rows read = read.reading.2.few

-- nor a form of files more fields than these
pub few_fields : (kind : FileKind) (records : List Fields) (row k : ℕ) (none : IsNoRow kind records row (causes.Field k)) → length (header_of none.0) ≤ 4
few_fields kind records row k none = grind arith

-- a fault that was found in a row of a file can be told
pub row_tellable : (kind : FileKind) (csv : List ℕ) (row : ℕ) (cause : RowCause) → IsRead kind csv (Err (row_faults.At row cause))
    → IsTellableRefusal (ImportRow row cause)
row_tellable kind csv row causes.Header read = (omega (arith, read.reading.here.0), tt)
row_tellable kind csv row causes.Columns read = (omega (arith, read.reading.here.3.few), tt)
row_tellable kind csv row (causes.Field k) read =
    let outside = read.reading.here.4 in
    (omega (arith, read.reading.here.3.few), omega (arith, outside.1.within, outside.0, few_fields kind read.records row k read.reading.here))
row_tellable kind csv row causes.TooManyRows read = (omega (arith, read.reading.here.0), tt)
row_tellable kind csv row causes.Differs read = absurd read.reading.here
row_tellable kind csv row causes.NoTariff read = absurd read.reading.here
row_tellable kind csv row causes.DayPast read = absurd read.reading.here

module _ (laws : DeskLaws) where
  -- what was read of the reply to what came of a message is what this tells
  pub same_told : (asked : Grants) (now : Option ℤ) (outcome : Outcome) (t u : Told) → IsReply asked (reply_bytes_of (moment_given now) outcome false) t
      → IsTellable asked u → Tells outcome u → TellAlike t u
  same_told asked now outcome t u is tellable tells =
      let text = says (moment_given now) outcome u tells in
      let dated = given_dated laws.dates now in
      let other : IsReply asked (reply_bytes_of (moment_given now) outcome false) u = record {
        tellable = tellable;
        short = same_body is.dated (date_given now) t u is.is_dated dated is.short (sym is.is_text ∙ text);
        dated = date_given now;
        is_dated = dated;
        is_text = text;
      } in
      laws.alike asked (reply_bytes_of (moment_given now) outcome false) t u is other

  -- ---- the message

  -- the message of an ask came to the desk, and this came of it
  pub record Came (ask : Ask) (second : ℤ) (old new : Timed Life) (came : List ℕ) : Type 0 where
    pub outcome : Outcome
    pub comes : Comes life_serves (message_of ask) (Some second) outcome old.0 new.0
    pub text : came ≡ reply_bytes_of (moment_given (Some second)) outcome false

  -- what came back for an ask is the reply to its own message
  pub came_of : (ask : Ask) (second : ℤ) (old new : Timed Life) (came : List ℕ) → CanSend ask
      → IsAnsweredAt second old (ask_text ask) came new → Came ask second old new came
  came_of ask second old new came can at =
      let x = at.exchange in
      let m = message_of ask in
      let whole : BeginsMessage (ask_text ask) m [] =
      subst (λ (text : List ℕ). BeginsMessage text m []) (append-nil (ask_text ask)) (laws.sent ask [] can) in
      let same : x.message ≡ m = (message_unique (ask_text ask) x.message m [] [] at.read whole).0 in
      let outcome = at.answered.0.0 in
      let comes : Comes life_serves m (Some second) outcome old.0 new.0 =
      subst (λ (m : Message). Comes life_serves m (Some second) outcome old.0 new.0) same
      (subst (λ (now : Option ℤ). Comes life_serves x.message now outcome old.0 new.0) at.given at.answered.0.1) in
      record {
        outcome = outcome;
        comes = comes;
        text =
            at.whole ∙ at.answered.0.2 ∙ ap (λ (m : Message). reply_to m.method (moment_given x.now) outcome m.closes) same
            ∙ has_body (row_by ask).method (laws.own ask can.askable).method (moment_given x.now) outcome
            ∙ ap (λ (now : Option ℤ). reply_bytes_of (moment_given now) outcome false) at.given;
      }

  -- what the message asks at a moment
  pub asks_at : (ask : Ask) → IsAskable ask → (moment : ℕ) → IsMoment moment → MessageAsks (message_of ask) (Some (pos moment)) moment ask
  asks_at ask askable moment is = record { comes = record { given = refl; is_moment = is }; asks = laws.own ask askable }

  -- so what came of it is that this was served
  pub served_at : (ask : Ask) → IsAskable ask → (moment : ℕ) → IsMoment moment → (old new : Timed Life) (came : List ℕ)
      → (c : Came ask (pos moment) old new came) → IsServed life_serves moment ask c.outcome old.0 new.0
  served_at ask askable moment is old new came c =
      served laws.meaning (message_of ask) (Some (pos moment)) moment ask (asks_at ask askable moment is) c.outcome old.0 new.0 c.comes

  -- ---- a request

  -- a reply in a life keeps the rules
  pub may_be : (old new : Life) (moment : ℕ) (request : Request) (r : Result Answer Refusal) → IsLife new → IsOffice old.opening
      → LifeReplies moment request r old new
      → MayReplyTo request r × AreToldSales r
  may_be old new moment request r life opening (at, stamped, goes) =
      let is : IsLife (extended_by old at r) = subst IsLife goes life in
      let office = present_before laws.along old at r is opening in
      let rules = by_rules old at r is in
      let at_is : IsStamped at =
      All-contains (λ (e : Exchange). IsStamped e.request) _ (record { request = at; reply = r }) is.stamped
      (Contains-push old.exchanges (record { request = at; reply = r })) in
      let later = laws.one_step old.forward (present old) at office at_is is.range in (
        subst (λ (q : Request). MayReplyTo q r) stamped.for_request (may_reply (present old) old.forward at r office rules),
        told_sales r rules later,
      )
    where
      told_sales : (r : Result Answer Refusal) → (acknowledges r ≡ true → r ≡ reply old.forward (present old) at)
          → IsOffice (step old.forward (present old) at) → AreToldSales r
      told_sales (Ok answer) rules later =
          subst AreToldSales (sym (rules refl))
          (All-weaker (Contains (step old.forward (present old) at).sales) _ (λ s there. sale_told (step old.forward (present old) at) s later there) _
          (laws.stand old.forward (present old) at))
      told_sales (Err refusal) rules later = All-nil _

  -- ---- what came is told

  -- what was looked up can be told
  pub reads_look : (lookup : Lookup) → AsksNoHealth (Look lookup) → IsAskable (Look lookup) → (life : Life) → IsOffice (present life) → (moment : ℕ)
      → (r : Result Found Refusal) → IsFoundAt life moment lookup r → Reads (Look lookup) (outcomes.Found (lookup_form lookup) r)
  reads_look lookup none askable life office moment r found =
      let keeps = look_tellable life moment lookup r found laws.ranges office none askable in
      record { tellable = keeps; tells = look_tells (lookup_form lookup) r (no_health (lookup_form lookup) (wanted_by (Look lookup)) r (look_wanted lookup) keeps) }

  module _ (moment : ℕ) (old new : Life) (opening : IsOffice old.opening) (life : IsLife new) where
    reads_import : (kind : FileKind) (csv : List ℕ) (read : Result (List Row) RowFault) → IsRead kind csv read → (outcome : Outcome)
        → IsImported life_serves moment read outcome old new → Reads (Import kind csv) outcome
    reads_import kind csv (Ok rows) is outcome (r, same, replies) =
        let may = may_be old new moment (requests.Import rows) r life opening replies in
        reads_reply (Import kind csv) forms.Json r outcome same
        (subst (λ (w : Grants). IsTellable w (told_reply forms.Json r)) (sym (import_wanted kind csv))
        (tellable_reply (requests.Import rows) r (few_rows kind csv rows is) may.1 may.0))
    reads_import kind csv (Err (row_faults.At row cause)) is outcome (same, stays) =
        reads_reply (Import kind csv) forms.Json (Err (ImportRow row cause)) outcome same (row_tellable kind csv row cause is)
    reads_import kind csv (Err row_faults.Memory) is outcome none = absurd none

    -- what came of an ask, but for a health, can be told as what is wanted
    pub what_came : (ask : Ask) → AsksNoHealth ask → IsAskable ask → (outcome : Outcome) → IsServed life_serves moment ask outcome old new
        → Reads ask outcome
    what_came (Import kind csv) none askable outcome (read, is, imported) = reads_import kind csv read (is_read kind csv read is) outcome imported
    what_came (Do request) none askable outcome (r, same, replies) =
        let may = may_be old new moment request r life opening replies in
        reads_reply (Do request) forms.Json r outcome same (tellable_reply request r (fits_file request askable) may.1 may.0)
    what_came (Receipt number) none askable outcome (r, same, replies) =
        let may = may_be old new moment (requests.Reprint number) r life opening replies in
        reads_reply (Receipt number) forms.Paper r outcome same (tellable_receipt number r may.0)
    what_came (Look lookup) none askable outcome (r, same, (found, stays)) =
        subst (Reads (Look lookup)) (sym same)
        (reads_look lookup none askable old (present_is laws.along old (subst IsLife stays life) opening) moment r found)

  -- so what was read of a reply to it is what is told of that
  pub alike_came : (ask : Ask) → AsksNoHealth ask → IsAskable ask → (moment : ℕ) → IsMoment moment → (old new : Timed Life) (came : List ℕ) (t : Told)
      → IsOffice old.0.opening → IsLife new.0 → (c : Came ask (pos moment) old new came) → IsReply (wanted_by ask) came t → TellAlike t (told_of c.outcome)
  alike_came ask none askable moment is_moment old new came t opening life c is =
      let reads = what_came moment old.0 new.0 opening life ask none askable c.outcome (served_at ask askable moment is_moment old new came c) in
      same_told (wanted_by ask) (Some (pos moment)) c.outcome t (told_of c.outcome) (subst (λ (x : List ℕ). IsReply (wanted_by ask) x t) c.text is)
      reads.tellable reads.tells

  -- ---- what is told is printed

  module _ (json : Bool) (moment : ℕ) (old new : Life) (o : Outputs) (end : CommandEnd) where
    -- what is told of what came of an ask is printed
    abbrev Prints : Ask → Outcome → Type 0
    Prints ask outcome = TellsTold json ask (told_of outcome) o end

    prints_import : (kind : FileKind) (csv : List ℕ) (read : Result (List Row) RowFault) (outcome : Outcome)
        → IsImported life_serves moment read outcome old new → Prints (Import kind csv) outcome → PrintsAdded moment read old new o end
    prints_import kind csv (Ok rows) outcome (r, same, replies) printed =
        record { reply = r; replied = replies; told = prints_reply json (Import kind csv) (λ s. refl) (λ s none. none) o end forms.Json r (subst (Prints (Import kind csv)) same printed) }
    prints_import kind csv (Err (row_faults.At row cause)) outcome (same, stays) printed = (subst (Prints (Import kind csv)) same printed, stays)
    prints_import kind csv (Err row_faults.Memory) outcome none printed = absurd none

    prints_look : (lookup : Lookup) → IsAskedByOne json (Look lookup) → (r : Result Found Refusal) → IsFoundAt old moment lookup r → new ≡ old
        → TellsTold json (Look lookup) (told_look (lookup_form lookup) r) o end → PrintsAsOnFile json (Look lookup) moment old new o end
    prints_look (lookups.ShiftTotals number) one r found same printed =
        let totals = look_prints old moment (lookups.ShiftTotals number) r found json o end one printed in
        record {
          totals = totals.0;
          are_totals = subst (λ (r : Result Found Refusal). IsFoundAt old moment (lookups.ShiftTotals number) r) totals.1 found;
          told = totals.2;
          same = same;
        }
    prints_look lookup one r found same printed =
        record { found = r; is_found = found; told = look_prints old moment lookup r found json o end one printed; same = same }

    prints : (ask : Ask) → IsAskedByOne json ask → (outcome : Outcome) → IsServed life_serves moment ask outcome old new → Prints ask outcome
        → PrintsAsOnFile json ask moment old new o end
    prints (Import kind csv) one outcome (read, is, imported) printed =
        let file = is_read kind csv read is in
        (file.records, read, file.are, file.reading, prints_import kind csv read outcome imported printed)
    prints (Do request) one outcome (r, same, replies) printed =
        record { reply = r; replied = replies; told = prints_reply json (Do request) (λ s. refl) (λ s none. none) o end forms.Json r (subst (Prints (Do request)) same printed) }
    prints (Receipt number) one outcome (r, same, replies) printed =
        record { reply = r; replied = replies; told = prints_reply json (Receipt number) (λ s. refl) (λ s none. none) o end forms.Paper r (subst (Prints (Receipt number)) same printed) }
    prints (Look lookup) one outcome (r, same, (found, stays)) printed = prints_look lookup one r found stays (subst (Prints (Look lookup)) same printed)

  -- what the command prints is what it prints of the desk's office
  pub one_prints : (ask : Ask) (json : Bool) (moment : ℕ) (old new : Timed Life) (came : List ℕ) (t : Told) (o : Outputs) (end : CommandEnd)
      → IsAskedByOne json ask → CanSend ask → IsMoment moment → IsOffice old.0.opening → IsLife new.0 → IsAnsweredAt (pos moment) old (ask_text ask) came new
      → IsReply (wanted_by ask) came t → TellsTold json ask t o end → PrintsAsOnFile json ask moment old.0 new.0 o end
  one_prints ask json moment old new came t o end one can is_moment opening life at is printed =
      let c = came_of ask (pos moment) old new came can at in
      let alike = alike_came ask (asks_none json ask one) can.askable moment is_moment old new came t opening life c is in
      prints json moment old.0 new.0 o end ask one c.outcome (served_at ask can.askable moment is_moment old new came c)
      (tell_alike json ask o end t (told_of c.outcome) alike printed)

  -- a desk whose clock is outside the moments tells that, and its office is as it was
  pub clock_prints : (ask : Ask) (json : Bool) (second : ℤ) (old new : Timed Life) (came : List ℕ) (t : Told) (o : Outputs) (end : CommandEnd)
      → CanSend ask → IsNoMoment second → IsAnsweredAt second old (ask_text ask) came new → IsReply (wanted_by ask) came t → TellsTold json ask t o end
      → IsTold o [] clock_line Refused end × (new.0 ≡ old.0)
  clock_prints ask json second old new came t o end can none at is printed =
      let c = came_of ask second old new came can at in
      let idle = idled laws.meaning (message_of ask) (Some second) faults.Clock (laws.outside ask second can.askable none) c.outcome old.0 new.0 c.comes in
      let text : IsReply (wanted_by ask) (reply_bytes_of (moment_given (Some second)) (outcomes.Faulty faults.Clock) false) t =
      subst (λ (x : List ℕ). IsReply (wanted_by ask) x t) (c.text ∙ ap (λ (x : Outcome). reply_bytes_of (moment_given (Some second)) x false) idle.0) is in
      let alike = same_told (wanted_by ask) (Some second) (outcomes.Faulty faults.Clock) t told.NoMoment text tt refl in
      (tell_alike json ask o end t told.NoMoment alike printed, idle.1)
