-- What a command printed of the conversation of a connection that carried what it sent and what came.
use Rattle.std.proofs.Common.{◌≡◌, ◌∙◌, ℕ, ◌<◌, ◌≤◌, ◌^◌, Bool, false, List, [], ◌∷◌, ◌++◌, length, Option, Some, Ok, inl, inr, refl, sym, ap, subst, append-nil, append_assoc, length-append, arith}
use Rattle.std.specs.Prelude.{Contains, IfSome, drop, take}
use Rattle.std.specs.List.{flat_map}
use Rattle.std.proofs.lemmas.List.{length-take-le, take-append-drop}
use Rattle.std.proofs.lemmas.List.Elements.{Contains-append_cases}
use Rattle.office_rules.specs.Office.{IsOffice}
use Rattle.office_rules.specs.declared.office.sale.Sale.{Sale}
use Rattle.vend_core.specs.Law.Life.{IsLife, Life}
use Rattle.asks.specs.Ask.{message_of}
use Rattle.asks.specs.declared.ask.Ask.{Ask}
use Rattle.asks.specs.declared.ask.Ask.TheVariants.{Look}
use Rattle.asks.specs.declared.lookup.Lookup.{Lookup}
use Rattle.asks.specs.declared.lookup.Lookup.TheVariants as lookups
use Rattle.book_states.specs.declared.lookup.Found.{Found}
use Rattle.conversation.specs.Conversation.{messages_of, replies_of, text_of}
use Rattle.conversation.specs.Exchanges.{Exchanged, MessageExchange, Timed, timed}
use Rattle.conversation.specs.message.Messages.{BeginsMessage, Message}
use Rattle.conversation.proofs.InterimLemmas.{expects_none, reply_alone}
use Rattle.conversation.proofs.ReadingLemmas.{message_unique}
use Rattle.desk.specs.Answering.{answers_by, life_serves}
use Rattle.desk_client.specs.Sent.{CanSend, ask_text, wanted_by}
use Rattle.desk_client.specs.Reply.{IsReply, longest_reply_body, reply_text}
use Rattle.desk_client.specs.Start.{IsDated}
use Rattle.desk_client.specs.Told.{told_text}
use Rattle.desk_client.specs.declared.told.Granted.TheVariants as granted
use Rattle.desk_client.specs.declared.told.Told.{Told}
use Rattle.desk_client.specs.declared.told.Told.TheVariants as told
use Rattle.desk_commands.specs.AskedOfDesk.{TellsTold}
use Rattle.desk_commands.specs.Exchanged.{Round}
use Rattle.desk_commands.specs.ListedAtDesk.{TellPages}
use Rattle.desk_commands.specs.print.ListTexts.{pages_text}
use Rattle.desk_commands.specs.print.Pages.{list_behind}
use Rattle.vend_ports.specs.print.Told.{IsTold, Outputs}
use Rattle.vend_ports.specs.declared.command_end.CommandEnd.{CommandEnd}
use Rattle.program_laws.specs.AtDesk.{AsksNoHealth, IsAskedByOne, came_in, sent_in}
use Rattle.program_laws.specs.SalesTold.{ExchangeTells, ExchangesTell, sales_found}
use Rattle.program_laws.specs.runs.Asked.{PrintsOfDesk}
use Rattle.program_laws.specs.runs.Asked.PrintsOfDesk.{a_find, a_reply, nothing, some_pages, totals}
use Rattle.program_laws.proofs.AtDeskLemmas.ListLemmas.{AreSame, OnePage, has_order, same_pages}
use Rattle.program_laws.proofs.AtDeskLemmas.OneLemmas.{DeskLaws, reply_length, same_body}
use Rattle.program_laws.proofs.AtDeskLemmas.PageLemmas.{CanAsk}
use Rattle.program_laws.proofs.AtDeskLemmas.PrintedLemmas.{tell_alike}
use Rattle.program_laws.proofs.AtDeskLemmas.RoundLemmas.{cut_reply}
use Rattle.program_laws.proofs.AskedLemmas.LifeLemmas.{GoesFrom, exchanged_goes, goes_through, life_from}
use Rattle.program_laws.proofs.AskedLemmas.PageSaysLemmas.{page_says}
use Rattle.program_laws.proofs.AskedLemmas.SaysLemmas.{Sells, exchange_says, sells_later}
use Rattle.program_laws.proofs.AskedLemmas.TalkLemmas.{Reads, Stops, Talk}
use Rattle.program_laws.proofs.AskedLemmas.TalkLemmas.Stops.{cut_short, expecting, no_more, unsaid}

-- what holds of the sales in what was printed
pub map_prints : (A B : Sale → Type 0) (o : Outputs) (end : CommandEnd) → ((s : Sale) → A s → B s) → PrintsOfDesk A o end → PrintsOfDesk B o end
map_prints A B o end gives (a_reply reply is sales) = a_reply reply is (λ s there. gives s (sales s there))
map_prints A B o end gives (a_find json lookup found is sales) = a_find json lookup found is (λ s there. gives s (sales s there))
map_prints A B o end gives (totals number all is) = totals number all is
map_prints A B o end gives (some_pages json pages errors meant is sales) = some_pages json pages errors meant is (λ s there. gives s (sales s there))
map_prints A B o end gives (nothing errors is) = nothing errors is

-- ---- replies at the front of what was written

-- a reply has some bytes
some_reply : (d : Option (List ℕ)) (t : Told) (came behind tail : List ℕ) → came ≡ reply_text d t → came ++ behind ≡ tail → tail ≡ [] → ⊥
some_reply d t came behind tail is text none = omega (arith, ap length (text ∙ none), length-append came behind, ap length is, reply_length d t)

-- One that came whole was not cut off.
not_cut : (d f : Option (List ℕ)) (t u : Told) (reply came behind : List ℕ) (part : ℕ) → IsDated d → IsDated f → length (told_text t) ≤ longest_reply_body
    → came ≡ reply_text d t → reply ≡ reply_text f u → part < length reply → length reply < 2 ^ 64 → came ++ behind ≡ take part reply → ⊥
not_cut d f t u reply came behind part dated date short is says shorter few text =
    let both : reply_text d t ++ (behind ++ drop part reply) ≡ reply_text f u ++ [] =
    sym (append_assoc (reply_text d t) behind (drop part reply)) ∙ ap (λ (bytes : List ℕ). (bytes ++ behind) ++ drop part reply) (sym is)
    ∙ ap (λ (bytes : List ℕ). bytes ++ drop part reply) text ∙ take-append-drop part reply ∙ says ∙ sym (append-nil (reply_text f u)) in
    let most : length (reply_text f u ++ []) < 2 ^ 64 =
    subst (λ (bytes : List ℕ). length bytes < 2 ^ 64) (says ∙ sym (append-nil (reply_text f u))) few in
    let cut = cut_reply d f t u (behind ++ drop part reply) [] dated date short most both in
    omega (
      arith,
      shorter,
      ap length cut.0,
      ap length is,
      ap length says,
      ap length text,
      length-append came behind,
      length-take-le part reply (omega (arith, shorter)),
    )

-- one that came is the first that was written
first_came : (d f : Option (List ℕ)) (t u : Told) (reply came behind more : List ℕ) → IsDated d → IsDated f → length (told_text t) ≤ longest_reply_body
    → came ≡ reply_text d t → reply ≡ reply_text f u → came ++ behind ≡ reply ++ more → length (came ++ behind) < 2 ^ 64
    → (reply_text d t ≡ reply_text f u) × (behind ≡ more)
first_came d f t u reply came behind more dated date short is says text few =
    let both : reply_text d t ++ behind ≡ reply_text f u ++ more =
    ap (λ (bytes : List ℕ). bytes ++ behind) (sym is) ∙ text ∙ ap (λ (bytes : List ℕ). bytes ++ more) says in
    cut_reply d f t u behind more dated date short
    (subst (λ (bytes : List ℕ). length bytes < 2 ^ 64) (ap (λ (bytes : List ℕ). bytes ++ behind) is ∙ both) few) both

-- what is asked by one message is no health
asks_none : (json : Bool) (ask : Ask) → IsAskedByOne json ask → AsksNoHealth ask
asks_none json (Look lookups.Health) one = one
asks_none json ask one = tt

module _ (laws : DeskLaws) where
  -- ---- one ask
  module _ (ask : Ask) (json : Bool) (can : CanSend ask) (one : IsAskedByOne json ask) (old new : Timed Life) (opening : IsOffice old.0.opening)
      (life : IsLife new.0) (came : List ℕ) (t : Told) (o : Outputs) (end : CommandEnd) (is : IsReply (wanted_by ask) came t)
      (printed : TellsTold json ask t o end) where
    by_exchanges : (xs : List MessageExchange) (mid : Timed Life) (served : Exchanged (timed (answers_by life_serves)) old xs mid) → GoesFrom mid.0 new.0
        → (later tail behind : List ℕ)
        → Reads (ask_text ask ++ later) (messages_of xs) (λ rest. Stops rest tail mid new) → came ++ behind ≡ replies_of xs ++ tail
        → length (came ++ behind) < 2 ^ 64
        → PrintsOfDesk (ExchangesTell old xs mid served) o end × Sells ask new.0 o end
    by_exchanges [] mid same goes later tail behind (no_more none) text few =
        absurd (none (message_of ask) later (laws.sent ask later can))
    by_exchanges [] mid same goes later tail behind (unsaid none) text few = absurd (some_reply is.dated t came behind tail is.is_text text none)
    by_exchanges [] mid same goes later tail behind (cut_short x after begins step part shorter most cut) text few =
        let asked = (message_unique (ask_text ask ++ later) x.message (message_of ask) after later begins (laws.sent ask later can)).0 in
        let begun : IsOffice mid.0.opening = subst (λ (l : Timed Life). IsOffice l.0.opening) (sym same) opening in
        let says = exchange_says laws mid new x begun life ask can asked (asks_none json ask one) step in
        let alone : text_of x ≡ x.reply = reply_alone x (ap (λ (m : Message). m.expects) asked) in
        absurd (not_cut is.dated says.date t says.said (text_of x) came behind part is.is_dated says.is_date is.short is.is_text (alone ∙ says.text)
        shorter most (text ∙ cut))
    by_exchanges [] mid same goes later tail behind (expecting expects) text few =
        absurd (expects_none (ask_text ask ++ later) (message_of ask) later (laws.sent ask later can) refl expects)
    by_exchanges (x ∷ xs) mid (next, step, rest) goes later tail behind (after, begins, on) text few =
        let asked = (message_unique (ask_text ask ++ later) x.message (message_of ask) after later begins (laws.sent ask later can)).0 in
        let its_life = life_from next.0 new.0 (goes_through next.0 mid.0 new.0 (exchanged_goes next mid xs rest) goes) life in
        let says = exchange_says laws old next x opening its_life ask can asked (asks_none json ask one) step in
        let first =
        first_came is.dated says.date t says.said (text_of x) came behind (replies_of xs ++ tail) is.is_dated says.is_date is.short is.is_text
        (reply_alone x (ap (λ (m : Message). m.expects) asked) ∙ says.text) (text ∙ append_assoc (text_of x) (replies_of xs) tail) few in
        let other : IsReply (wanted_by ask) came says.said = record {
          tellable = says.tellable;
          short = same_body is.dated says.date t says.said is.is_dated says.is_date is.short first.0;
          dated = says.date;
          is_dated = says.is_date;
          is_text = is.is_text ∙ first.0;
        } in
        let alike = laws.alike (wanted_by ask) came t says.said is other in
        let prints = says.prints json o end one (tell_alike json ask o end t says.said alike printed) in (
          map_prints (ExchangeTells old.0 x next.0) (ExchangesTell old (x ∷ xs) mid (next, step, rest)) o end (λ s tells. inl tells) prints.0,
          sells_later ask next.0 new.0 o end (goes_through next.0 mid.0 new.0 (exchanged_goes next mid xs rest) goes) prints.1,
        )

    -- what a command printed of the conversation of its ask
    pub ask_prints : (Tells : Sale → Type 0) → Talk old new (ask_text ask) came Tells → PrintsOfDesk Tells o end × Sells ask new.0 o end
    ask_prints Tells talk =
        let prints = by_exchanges talk.exchanges talk.mid talk.served talk.goes talk.later talk.tail talk.behind talk.reads talk.text talk.few in
        (map_prints (ExchangesTell old talk.exchanges talk.mid talk.served) Tells o end talk.tells prints.0, prints.1)

  -- ---- the pages of a list

  -- what was sent begins with the message that asks for the first page
  sent_first : (list : Lookup) → CanAsk list → (round : Round) (rounds : List Round) (later : List ℕ) → round.message ≡ ask_text (Look list)
      → BeginsMessage (sent_in (round ∷ rounds) ++ later) (message_of (Look list)) (sent_in rounds ++ later)
  sent_first list askable round rounds later message =
      let m = message_of (Look list) in
      let rest = sent_in rounds ++ later in
      subst (λ (bytes : List ℕ). BeginsMessage bytes m rest) (sym (append_assoc round.message (sent_in rounds) later))
      (subst (λ (text : List ℕ). BeginsMessage (text ++ rest) m rest) (sym message) (laws.sent (Look list) rest askable))

  module _ (one : OnePage) where
    -- the pages that the desk found, as they were told, and the sales in them
    record PagesThere (old mid : Timed Life) (xs : List MessageExchange) (served : Exchanged (timed (answers_by life_serves)) old xs mid) (pages : List Found)
        : Type 0 where
      pub found : List Found
      pub alike : AreSame pages found
      pub tells : (s : Sale) → Contains (flat_map (λ page. sales_found (Ok page)) found) s → ExchangesTell old xs mid served s

    rounds_tell : (new : Timed Life) → IsLife new.0 → (old : Timed Life) → IsOffice old.0.opening → (list left : Option Lookup) → IfSome list CanAsk
        → (rounds : List Round) (pages : List Found) → TellPages list rounds pages left
        → (xs : List MessageExchange) (mid : Timed Life) (served : Exchanged (timed (answers_by life_serves)) old xs mid) → GoesFrom mid.0 new.0
        → (later tail behind : List ℕ)
        → Reads (sent_in rounds ++ later) (messages_of xs) (λ rest. Stops rest tail mid new) → came_in rounds ++ behind ≡ replies_of xs ++ tail
        → length (came_in rounds ++ behind) < 2 ^ 64
        → PagesThere old mid xs served pages
    rounds_tell new life old opening list left askable [] [] tells xs mid served goes later tail behind reads text few =
        record { found = []; alike = tt; tells = λ s there. absurd (omega (arith, there.1)) }
    rounds_tell new life old opening (Some list) left askable (round ∷ rounds) (page ∷ pages) (message, tell, tells) [] mid same goes later tail behind
        (no_more none) text few =
        absurd (none (message_of (Look list)) (sent_in rounds ++ later) (sent_first list askable round rounds later message))
    rounds_tell new life old opening (Some list) left askable (round ∷ rounds) (page ∷ pages) (message, tell, tells) [] mid same goes later tail behind
        (unsaid none) text few =
        absurd (some_reply tell.reply.reply.dated (told.Granted (granted.Page tell.body)) round.came (came_in rounds ++ behind) tail tell.reply.reply.is_text
        (sym (append_assoc round.came (came_in rounds) behind) ∙ text) none)
    rounds_tell new life old opening (Some list) left askable (round ∷ rounds) (page ∷ pages) (message, tell, tells) [] mid same goes later tail behind
        (cut_short x after begins step part shorter most cut) text few =
        let ask = Look list in
        let t = told.Granted (granted.Page tell.body) in
        let asked =
        (message_unique (sent_in (round ∷ rounds) ++ later) x.message (message_of ask) after (sent_in rounds ++ later) begins
        (sent_first list askable round rounds later message)).0 in
        let begun : IsOffice mid.0.opening = subst (λ (l : Timed Life). IsOffice l.0.opening) (sym same) opening in
        let says = page_says laws mid new x begun life one list askable (has_order list page tell.order) asked step in
        let alone : text_of x ≡ x.reply = reply_alone x (ap (λ (m : Message). m.expects) asked) in
        absurd (not_cut tell.reply.reply.dated says.date t says.said (text_of x) round.came (came_in rounds ++ behind) part
        tell.reply.reply.is_dated says.is_date tell.reply.reply.short tell.reply.reply.is_text (alone ∙ says.text)
        shorter most (sym (append_assoc round.came (came_in rounds) behind) ∙ text ∙ cut))
    rounds_tell new life old opening (Some list) left askable (round ∷ rounds) (page ∷ pages) (message, tell, tells) [] mid same goes later tail behind
        (expecting expects) text few =
        absurd (expects_none (sent_in (round ∷ rounds) ++ later) (message_of (Look list)) (sent_in rounds ++ later)
        (sent_first list askable round rounds later message) refl expects)
    rounds_tell new life old opening (Some list) left askable (round ∷ rounds) (page ∷ pages) (message, tell, tells) (x ∷ xs) mid (next, step, rest) goes later
        tail behind (after, begins, on) text few =
        let ask = Look list in
        let t = told.Granted (granted.Page tell.body) in
        let same =
        message_unique (sent_in (round ∷ rounds) ++ later) x.message (message_of ask) after (sent_in rounds ++ later) begins
        (sent_first list askable round rounds later message) in
        let its_life = life_from next.0 new.0 (goes_through next.0 mid.0 new.0 (exchanged_goes next mid xs rest) goes) life in
        let says = page_says laws old next x opening its_life one list askable (has_order list page tell.order) same.0 step in
        let whole : length (round.came ++ (came_in rounds ++ behind)) < 2 ^ 64 =
        subst (λ (bytes : List ℕ). length bytes < 2 ^ 64) (append_assoc round.came (came_in rounds) behind) few in
        let first =
        first_came tell.reply.reply.dated says.date t says.said (text_of x) round.came (came_in rounds ++ behind) (replies_of xs ++ tail)
        tell.reply.reply.is_dated says.is_date tell.reply.reply.short tell.reply.reply.is_text
        (reply_alone x (ap (λ (m : Message). m.expects) same.0) ∙ says.text)
        (sym (append_assoc round.came (came_in rounds) behind) ∙ text ∙ append_assoc (text_of x) (replies_of xs) tail) whole in
        let other : IsReply (wanted_by ask) round.came says.said = record {
          tellable = says.tellable;
          short =
              same_body tell.reply.reply.dated says.date t says.said tell.reply.reply.is_dated says.is_date tell.reply.reply.short
              first.0;
          dated = says.date;
          is_dated = says.is_date;
          is_text = tell.reply.reply.is_text ∙ first.0;
        } in
        let here = says.page tell.body page (laws.alike (wanted_by ask) round.came t says.said tell.reply.reply other) tell.told tell.text in
        let closes : x.message.closes ≡ false = ap (λ (m : Message). m.closes) same.0 in
        let others : Reads (sent_in rounds ++ later) (messages_of xs) (λ rest. Stops rest tail mid new) =
        subst (λ (bytes : List ℕ). Reads bytes (messages_of xs) (λ rest. Stops rest tail mid new)) same.1 (on closes) in
        let more =
        rounds_tell new life next (subst (λ (l : Life). IsOffice l.opening) (sym here.same) opening) (list_behind page) left here.behind rounds pages tells xs mid
        rest goes later tail behind others first.1 (omega (arith, whole, length-append round.came (came_in rounds ++ behind))) in
        record {
          found = here.there ∷ more.found;
          alike = (here.alike, more.alike);
          tells = λ s there. elim (Contains-append_cases (sales_found (Ok here.there)) (flat_map (λ page. sales_found (Ok page)) more.found) s there) [
            | inl mine ↦ inl (here.tells s mine)
            | inr others ↦ inr (more.tells s others)
          ];
        }
    rounds_tell new life old opening list left askable rounds pages tells xs mid served goes later tail behind reads text few = absurd tells

    -- what a command printed of the conversation of its list
    pub pages_print : (list : Lookup) → CanAsk list → (json : Bool) (old new : Timed Life) → IsOffice old.0.opening → IsLife new.0 → (rounds : List Round)
        (pages : List Found) (left : Option Lookup) → TellPages (Some list) rounds pages left → (o : Outputs) (end meant : CommandEnd) (errors : List ℕ)
        → IsTold o (pages_text json pages) errors meant end
        → (Tells : Sale → Type 0) → Talk old new (sent_in rounds) (came_in rounds) Tells → PrintsOfDesk Tells o end
    pages_print list askable json old new opening life rounds pages left tells o end meant errors is Tells talk =
        let all =
        rounds_tell new life old opening (Some list) left askable rounds pages tells talk.exchanges talk.mid talk.served talk.goes talk.later talk.tail
        talk.behind talk.reads talk.text talk.few in
        some_pages json all.found errors meant (subst (λ text. IsTold o text errors meant end) (same_pages json pages all.found all.alike) is)
        (λ s there. talk.tells s (all.tells s there))
