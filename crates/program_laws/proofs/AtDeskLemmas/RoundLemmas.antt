-- A conversation over what the rounds of a list send is their exchanges.
use Rattle.std.proofs.Common.{◌≡◌, ◌∙◌, ℕ, ℤ, pos, ◌^◌, ◌<◌, ◌≤◌, Bool, false, List, [], ◌∷◌, ◌++◌, length, Option, Some, Result, Ok, Err, inl, inr, refl, sym, ap, subst, append-nil, append_assoc, length-append, arith}
use Rattle.std.specs.Prelude.{All, IfSome, MatchBool, decimal}
use Rattle.std.proofs.lemmas.List.{append_cancel_right}
use Rattle.std.proofs.lemmas.List.Elements.{All-head, All-tail}
use Rattle.vend_core.specs.Law.Life.{IsLife, Life, present}
use Rattle.office_rules.specs.Office.{IsOffice}
use Rattle.book_states.specs.declared.lookup.Found.{Found}
use Rattle.conversation.specs.Conversation.{Conversation, last_words, messages_of, replies_of, text_of}
use Rattle.conversation.specs.Exchanges.{Exchanged, MessageExchange, Timed, timed}
use Rattle.conversation.specs.declared.message.framing.Framing.{Framing}
use Rattle.conversation.specs.declared.message.message_fault.MessageFault.{MessageFault}
use Rattle.conversation.specs.declared.message.message_fault.MessageFault.TheVariants as faults
use Rattle.conversation.specs.message.Framing.{framing_of}
use Rattle.conversation.specs.message.Heads.{BeginsWithHead}
use Rattle.conversation.specs.message.Messages.{BeginsMessage, BeginsFaulty, EndsAs, Ending, IsCutMessage, Message, Messages, broken, closing, ended, finished, refused}
use Rattle.conversation.proofs.InterimLemmas.{reply_alone}
use Rattle.conversation.proofs.ReadingLemmas.{head_unique, message_unique, no_empty_head}
use Rattle.desk.specs.Answering.{answers_by, life_serves, message_refusal_of}
use Rattle.asks.specs.Ask.{message_of}
use Rattle.asks.specs.declared.ask.Ask.{Ask}
use Rattle.asks.specs.declared.ask.Ask.TheVariants.{Look}
use Rattle.asks.specs.declared.lookup.Lookup.{Lookup}
use Rattle.desk_client.specs.Sent.{CanSend, ask_text}
use Rattle.desk_client.specs.Reply.{longest_reply_body, reply_text}
use Rattle.desk_client.specs.Start.{IsDated, head_end, start_text}
use Rattle.desk_client.specs.Told.{told_start, told_text}
use Rattle.desk_client.specs.declared.told.Granted.TheVariants as granted
use Rattle.desk_client.specs.declared.told.Told.{Told}
use Rattle.desk_client.specs.declared.told.Told.TheVariants as told
use Rattle.desk_client.proofs.HeadLemmas.{one_head}
use Rattle.desk_client.proofs.TellsLemmas.{date_given, given_dated, says}
use Rattle.desk_messages.specs.Meaning.{lookup_form}
use Rattle.desk_messages.specs.declared.reply.outcome.Outcome.TheVariants as outcomes
use Rattle.desk_messages.specs.reply.HttpDate.{moment_given}
use Rattle.program_laws.specs.AtDesk.{AreAnsweredOn, IsAnsweredAt, IsGivenOn, came_in, sent_in}
use Rattle.desk_commands.specs.ListedAtDesk.{TellPages}
use Rattle.desk_commands.specs.Exchanged.{Round}
use Rattle.desk_commands.specs.print.Pages.{list_behind}
use Rattle.program_laws.proofs.AtDeskLemmas.ListLemmas.{OnePage, has_order, looks_up, one_page}
use Rattle.program_laws.proofs.AtDeskLemmas.OneLemmas.{DeskLaws, reply_length}
use Rattle.program_laws.proofs.AtDeskLemmas.PageLemmas.{CanAsk, behind_askable}
use Rattle.program_laws.proofs.AtDeskLemmas.RuleLemmas.{present_is}
use Rattle.program_laws.proofs.AtDeskLemmas.TellableLemmas.{told_look}

-- ---- an input that begins with a message does not end there

-- its message is whole
pub no_cut : (input : List ℕ) (m : Message) (rest : List ℕ) (expects : Bool) → BeginsMessage input m rest → ¬ IsCutMessage input expects
no_cut input m rest expects begins (missing, cut) =
    let heads = head_unique input begins.head cut.head (m.body ++ rest) cut.body begins.begins cut.begins in
    let framings : Ok (record { method = m.method; body = length m.body; closes = m.closes; expects = m.expects }) ≡ Ok cut.framing =
    sym begins.framed ∙ ap framing_of heads.0 ∙ cut.framed in
    let long : length m.body ≡ cut.framing.body = cc in
    omega (arith, long, cut.lacks, cut.some, ap length heads.1, length-append m.body rest)

abbrev framed_as : Message → Result Framing MessageFault
framed_as m = Ok (record { method = m.method; body = length m.body; closes = m.closes; expects = m.expects })

abbrev faulty_as : MessageFault → Result Framing MessageFault
faulty_as fault = Err fault

-- and has no fault
pub no_fault : (input : List ℕ) (m : Message) (rest : List ℕ) (fault : MessageFault) → BeginsMessage input m rest → ¬ BeginsFaulty input fault
no_fault input m rest fault begins faulty =
    let heads = head_unique input begins.head faulty.head (m.body ++ rest) faulty.rest begins.begins faulty.begins in
    let framings : framed_as m ≡ faulty_as fault = sym begins.framed ∙ ap framing_of heads.0 ∙ faulty.faulty in
    absurd cc

-- so an input that ended did not end there
pub not_end : (input : List ℕ) (m : Message) (rest : List ℕ) (e : Ending) → 0 < length input → BeginsMessage input m rest → ¬ EndsAs ended input e
not_end input m rest (finished expects) some begins (inl (none, untold)) = omega (arith, some, ap length none)
not_end input m rest (finished expects) some begins (inr cut) = no_cut input m rest expects begins cut
not_end input m rest closing some begins ends = ends
not_end input m rest (broken expects) some begins ends = ends
not_end input m rest (refused faults.Head) some begins ends = ends.1 begins.head (m.body ++ rest) begins.begins
not_end input m rest (refused faults.Method) some begins ends = no_fault input m rest faults.Method begins ends
not_end input m rest (refused faults.Host) some begins ends = no_fault input m rest faults.Host begins ends
not_end input m rest (refused faults.Coding) some begins ends = no_fault input m rest faults.Coding begins ends
not_end input m rest (refused faults.Length) some begins ends = no_fault input m rest faults.Length begins ends
not_end input m rest (refused faults.Body) some begins ends = no_fault input m rest faults.Body begins ends

-- ---- a reply is cut off a text in one way

regroup : (s d e r more : List ℕ) → (s ++ (d ++ (e ++ r))) ++ more ≡ s ++ (d ++ (e ++ (r ++ more)))
regroup s d e r more = simp append_assoc

-- two replies at the front of one text are one, and so is what follows them
pub cut_reply : (d f : Option (List ℕ)) (t u : Told) (a b : List ℕ) → IsDated d → IsDated f → length (told_text t) ≤ longest_reply_body
    → length (reply_text f u ++ b) < 2 ^ 64 → reply_text d t ++ a ≡ reply_text f u ++ b
    → (reply_text d t ≡ reply_text f u) × (a ≡ b)
cut_reply d f t u a b is are short few same =
    let small : length (told_text u) < 2 ^ 64 = omega (arith, few, length-append (reply_text f u) b, reply_length f u) in
    let heads =
    one_head (told_start t) (told_start u) (length (told_text t)) (length (told_text u)) d f (told_text t ++ a) (told_text u ++ b) (omega (arith, short)) small is are
    (sym (regroup (start_text (told_start t)) (decimal (length (told_text t))) (head_end d) (told_text t) a) ∙ same
    ∙ regroup (start_text (told_start u)) (decimal (length (told_text u))) (head_end f) (told_text u) b) in
    let front = front_same (told_text t) (told_text u) a b heads.1 heads.2 in
    (append_cancel_right (reply_text d t) (reply_text f u) b (ap (λ (x : List ℕ). reply_text d t ++ x) (sym front.1) ∙ same), front.1)
  where
    front_same : (x y p q : List ℕ) → length x ≡ length y → x ++ p ≡ y ++ q → (x ≡ y) × (p ≡ q)
    front_same [] [] p q long same = (refl, same)
    front_same [] (c ∷ y) p q long same = absurd (omega (arith, long))
    front_same (c ∷ x) [] p q long same = absurd (omega (arith, long))
    front_same (c ∷ x) (d ∷ y) p q long same =
        let first : c ≡ d = cc in
        let rest : x ++ p ≡ y ++ q = cc in
        let more = front_same x y p q (omega (arith, long)) rest in
        (cc, more.1)

-- ---- rounds

-- a message has some bytes
pub some_text : (text : List ℕ) (m : Message) (rest : List ℕ) → BeginsMessage text m rest → text ≡ [] → ⊥
some_text text m rest begins none =
    no_empty_head begins.head (m.body ++ rest) (subst (λ (x : List ℕ). BeginsWithHead x begins.head (m.body ++ rest)) none begins.begins)

-- what was sent is what the ask sends
sent_so : (second : ℤ) (old mid : Timed Life) (text sent came : List ℕ) → sent ≡ text → IsAnsweredAt second old text came mid
    → IsAnsweredAt second old sent came mid
sent_so second old mid text sent came same at = subst (λ (bytes : List ℕ). IsAnsweredAt second old bytes came mid) (sym same) at

-- and what came is what the desk wrote
came_so : (second : ℤ) (old mid : Timed Life) (text came wrote : List ℕ) → came ≡ wrote → IsAnsweredAt second old text wrote mid
    → IsAnsweredAt second old text came mid
came_so second old mid text came wrote same at = subst (λ (bytes : List ℕ). IsAnsweredAt second old text bytes mid) (sym same) at

-- and a text that is not empty has
pub some_length : (text : List ℕ) → ¬ (text ≡ []) → 0 < length text
some_length [] some = absurd (some refl)
some_length (c ∷ text) some = omega arith

module _ (laws : DeskLaws) (one : OnePage) (day : ℕ) where
  rounds_answer : (old new : Timed Life) → IsOffice (present old.0) → (list left : Option Lookup) → IfSome list CanAsk
      → (rounds : List Round) (pages : List Found) (xs : List MessageExchange) (ending : Ending)
      → TellPages list rounds pages left → length (came_in rounds) < 2 ^ 64 → Messages ended (sent_in rounds) (messages_of xs) ending
      → Exchanged (timed (answers_by life_serves)) old xs new
      → came_in rounds ≡ replies_of xs ++ last_words message_refusal_of ending → All (λ (x : MessageExchange). IsGivenOn day x.now) xs
      → AreAnsweredOn day old rounds new
  rounds_answer old new office list left askable [] [] [] ending tells few messages served text given = served
  rounds_answer old new office list left askable [] [] (x ∷ xs) ending tells few messages served text given =
      absurd (some_text [] x.message messages.0 messages.1 refl)
  rounds_answer old new office (Some list) left askable (round ∷ rounds) (page ∷ pages) [] ending (message, tell, tells) few messages served text given =
      let ask : Ask = Look list in
      let sent : BeginsMessage (round.message ++ sent_in rounds) (message_of ask) (sent_in rounds) =
      subst (λ (text : List ℕ). BeginsMessage (text ++ sent_in rounds) (message_of ask) (sent_in rounds)) (sym message)
      (laws.sent ask (sent_in rounds) askable) in
      absurd (not_end (round.message ++ sent_in rounds) (message_of ask) (sent_in rounds) ending (some_length _ (some_text _ _ _ sent)) sent messages)
  rounds_answer old new office (Some list) left askable (round ∷ rounds) (page ∷ pages) (x ∷ xs) ending (message, tell, tells) few (rest, begins, match)
      (mid, step, later) text given =
      let ask : Ask = Look list in
      let m = message_of ask in
      let input = round.message ++ sent_in rounds in
      let sent : BeginsMessage input m (sent_in rounds) =
      subst (λ (text : List ℕ). BeginsMessage (text ++ sent_in rounds) m (sent_in rounds)) (sym message) (laws.sent ask (sent_in rounds) askable) in
      let same = message_unique input x.message m rest (sent_in rounds) begins sent in
      let closes : x.message.closes ≡ false = ap (λ (m : Message). m.closes) same.0 in
      let no_more : text_of x ≡ x.reply = reply_alone x (ap (λ (m : Message). m.expects) same.0) in
      let others : Messages ended (sent_in rounds) (messages_of xs) ending =
      subst (λ (bytes : List ℕ). Messages ended bytes (messages_of xs) ending) same.1
      (subst (λ (b : Bool). MatchBool b ((messages_of xs ≡ []) × (ending ≡ closing)) (Messages ended rest (messages_of xs) ending)) closes match) in
      let at = All-head (λ (x : MessageExchange). IsGivenOn day x.now) x xs given in
      let alone : BeginsMessage (ask_text ask) m [] =
      subst (λ (text : List ℕ). BeginsMessage text m []) (append-nil (ask_text ask)) (laws.sent ask [] askable) in
      let mine : IsAnsweredAt (pos at.0) old (ask_text ask) x.reply mid = record {
        exchange = x;
        read = subst (λ (m : Message). BeginsMessage (ask_text ask) m []) (sym same.0) alone;
        given = at.3;
        answered = step;
        whole = refl;
      } in
      let looked = looks_up laws at.0 old mid list x.reply at.1 office (has_order list page tell.order) askable mine in
      let u = told_look (lookup_form list) looked.result in
      let t = told.Granted (granted.Page tell.body) in
      let now = Some (pos at.0) in
      let wrote = date_given now in
      let words : x.reply ≡ reply_text wrote u =
      looked.text ∙ says (moment_given now) (outcomes.Found (lookup_form list) looked.result) u looked.reads.tells in
      let behind : List ℕ = replies_of xs ++ last_words message_refusal_of ending in
      let date = tell.reply.reply.dated in
      let both : reply_text date t ++ came_in rounds ≡ reply_text wrote u ++ behind =
      ap (λ (bytes : List ℕ). bytes ++ came_in rounds) (sym tell.reply.reply.is_text) ∙ text ∙ append_assoc (text_of x) (replies_of xs)
      (last_words message_refusal_of ending)
      ∙ ap (λ (bytes : List ℕ). bytes ++ behind) (no_more ∙ words) in
      let total : length (reply_text wrote u ++ behind) < 2 ^ 64 =
      omega (
        arith,
        few,
        ap length both,
        length-append round.came (came_in rounds),
        length-append (reply_text date t)
            (came_in rounds),
        ap length tell.reply.reply.is_text,
      ) in
      let cut =
      cut_reply date wrote t u (came_in rounds) behind tell.reply.reply.is_dated (given_dated laws.dates now) tell.reply.reply.short total both in
      let came : round.came ≡ x.reply = tell.reply.reply.is_text ∙ cut.0 ∙ sym words in
      let answered : IsAnsweredAt (pos at.0) old (ask_text ask) round.came mid =
      came_so (pos at.0) old mid (ask_text ask) round.came x.reply came mine in
      let here = one_page laws one at.0 old mid list round.came page at.1 office askable answered tell in
      let next : IfSome (list_behind page) CanAsk =
      subst (λ (next : Option Lookup). IfSome next CanAsk) (sym here.alike.behind)
      (behind_askable (present old.0) office at.0 list here.there here.finds) in
      let more =
      rounds_answer mid new (subst (λ (l : Life). IsOffice (present l)) (sym here.same) office) (list_behind page) left next rounds pages xs ending tells
      (omega (arith, few, length-append round.came (came_in rounds))) others later cut.1
      (All-tail (λ (x : MessageExchange). IsGivenOn day x.now) x xs given) in
      (at.0, at.1, at.2, (mid, sent_so (pos at.0) old mid (ask_text ask) round.message round.came message answered, more))
  rounds_answer old new office list left askable rounds pages xs ending tells few messages served text given = absurd tells

-- so where a desk read just what a list sends, and all that it wrote came, it answered each round
pub lines_answer : (laws : DeskLaws) → OnePage
    → (list : Lookup) (day : ℕ) (old new : Timed Life) (rounds : List Round) (pages : List Found) (left : Option Lookup) (ending : Ending)
    → CanSend (Look list) → IsOffice old.0.opening → IsLife old.0 → TellPages (Some list) rounds pages left → length (came_in rounds) < 2 ^ 64
    → (held : Conversation (timed (answers_by life_serves)) message_refusal_of ended (sent_in rounds) old (came_in rounds) ending new)
    → All (λ (x : MessageExchange). IsGivenOn day x.now) held.exchanges
    → AreAnsweredOn day old rounds new
lines_answer laws one list day old new rounds pages left ending askable opening life tells few held given =
    rounds_answer laws one day old new (present_is laws.along old.0 life opening)
    (Some list) left askable rounds pages held.exchanges ending tells few held.messages held.served held.text_is given
