-- Commands that ask a desk, and what the desk answered.
use Rattle.std.proofs.Common.{◌≡◌, ◌∙◌, ℕ, ℤ, pos, Bool, List, [], ◌∷◌, ◌++◌, length, take, Option, Some, ap, append_assoc, inl, inr, refl, sym, subst}
use lib.Seq.{take-append_seam}
use Rattle.sqlite.specs.State.{HasCleanDisk}
use Rattle.sqlite_trees.specs.declared.store.Store.{Ghosts}
use Rattle.sts_fields.specs.Moment.{IsMoment}
use Rattle.sts_fields.specs.Text.{Text}
use Rattle.asks.specs.declared.ask.Ask.{Ask}
use Rattle.asks.specs.declared.endpoint.Grants.TheVariants as wants
use Rattle.books.specs.Keeps.{Represents, Seen}
use Rattle.command_line.specs.declared.address.Address.{Address}
use Rattle.command_line.specs.declared.asked.Asked.{Asked}
use Rattle.command_line.specs.declared.asked.Asked.TheVariants as asks
use Rattle.command_line.specs.declared.office_words.AskWords.{AskWords}
use Rattle.command_line.specs.declared.place.Place.{Place}
use Rattle.command_line.specs.declared.place.Place.TheVariants as places
use Rattle.conversation.proofs.WiderLemmas.{run_wider, unclocked}
use Rattle.conversation.specs.Clock.{Gives}
use Rattle.conversation.specs.Conversation.{Conversation}
use Rattle.conversation.specs.Exchanges.{ReadsClock, Timed, clocked, timed}
use Rattle.conversation.specs.Run.{IsRun}
use Rattle.conversation.specs.Uses.{Use}
use Rattle.conversation.specs.declared.end.End.{End}
use Rattle.conversation.specs.declared.end.End.TheVariants.{Closed}
use Rattle.conversation.specs.message.Messages.{Ending, closing, ended, finished}
use Rattle.desk.specs.Answering.{answers_by, life_serves, message_refusal_of}
use Rattle.desk.specs.Converses.{Converses}
use Rattle.desk_client.specs.Answers.{IsReplyTo, IsSaleFor}
use Rattle.desk_client.specs.Sent.{CanSend, ask_text, wanted_by}
use Rattle.desk_client.specs.Reply.{IsReply}
use Rattle.desk_client.specs.Tells.{as_told}
use Rattle.desk_client.specs.Told.{IsGrantOf}
use Rattle.desk_client.specs.declared.told.Granted.{Granted}
use Rattle.desk_client.specs.declared.told.Granted.TheVariants as grants
use Rattle.desk_client.specs.declared.told.Told.{Told}
use Rattle.desk_client.specs.declared.told.Told.TheVariants as tells
use Rattle.desk_commands.specs.AskedOfDesk.{IsAsked, IsAskedOfDesk, IsAskedOnce, TellsTold}
use Rattle.desk_commands.specs.AskedOfDesk.IsAsked.{broken, no_room, replied, unsent}
use Rattle.desk_commands.specs.AskedOfDesk.IsAskedOnce.{asked, without_rows}
use Rattle.desk_commands.specs.Exchanged.{Calls, Exchanges, Round, one_round}
use Rattle.office_rules.specs.Office.{IsOffice, Office}
use Rattle.office_rules.specs.declared.decision.request.Order.{Order}
use Rattle.office_rules.specs.declared.office.sale.Sale.{Sale}
use Rattle.papers.specs.Receipt.{receipt_of}
use Rattle.program_laws.specs.AtDesk.{IsAnsweredAt, IsSoldIn}
use Rattle.program_laws.specs.Selling.{PrintsSale}
use Rattle.program_laws.specs.runs.Asked.{AsksAt, AsksDesk, AsksDeskSo, AsksIn, rounds_asked, rounds_of_one, rounds_once}
use Rattle.program_laws.specs.runs.Here.{Here}
use Rattle.program_laws.specs.runs.Words.{selling}
use Rattle.program_laws.proofs.CourseLemmas.{exchanged_opening}
use Rattle.vend_commands.specs.Run.{IsCarriedOut, IsOfficeAsked, IsProgramRun}
use Rattle.vend_commands.specs.Run.IsProgramRun.{answered, bad_word, explained}
use Rattle.vend_commands.specs.Run.IsProgramRun.{no_room as no_room_for_words}
use Rattle.vend_commands.specs.port.Machines.{Machine}
use Rattle.vend_core.specs.Law.Life.{Life}
use Rattle.vend_ports.specs.port.Texts.{Texts}
use Rattle.vend_ports.specs.print.Told.{Outputs}
use Rattle.vend_ports.specs.declared.command_end.CommandEnd.{CommandEnd}
use Rattle.vend_ports.specs.declared.command_end.CommandEnd.TheVariants.{Done, Refused}
use Rattle.vend_ports.specs.declared.port.loopback.Loopback as loopback
use Rattle.law_witnesses.specs.Asking.{AreAnswering, ask_to_sell, transcript}
use Rattle.law_witnesses.specs.Runs.{IsRunOf}

-- ---- the bytes of a connection

-- whoever knows what was written knows what is to be read
same_unread : (u v s t more : List ℕ) → transcript v t ≡ transcript u s ++ more → v ≡ u
same_unread u v s t more is =
    let same : length v ∷ (v ++ t) ≡ length u ∷ ((u ++ s) ++ more) = is in
    let long : length v ≡ length u = cc in
    let all : v ++ t ≡ (u ++ s) ++ more = cc in
    sym (take-append_seam v t) ∙ ap (λ (n : ℕ). take n (v ++ t)) long ∙ ap (λ (bytes : List ℕ). take (length u) bytes) (all ∙ append_assoc u s more)
    ∙ take-append_seam u (s ++ more)

module _ {N S : Type 0} (of : loopback.Ghosts N S) (unread sent : S → List ℕ) (net : N) where
  -- what came of one message is the front of what was to be read
  pub came_front : (desk : Address) (message came reply : List ℕ)
      → Exchanges of (λ s. Some (unread s)) (λ s. Some (transcript (unread s) (sent s))) net desk (one_round message came)
      → ((s : S) → of.calls net desk s → unread s ≡ reply) → (rest : List ℕ) × (reply ≡ came ++ rest)
  came_front desk message came reply had there =
      let between = had.held.0 in
      let round = had.held.1 in
      let same = same_unread (unread had.fresh) (unread round.sent) (sent had.fresh) (sent round.sent) message round.wrote in
      (unread between, sym (there had.fresh had.calls) ∙ sym same ∙ round.read)

-- ---- a command that asked to sell

-- it was replied to, and told the reply
pub record IsRepliedTo (calls : Calls) (order : Order) (o : Outputs) (end : CommandEnd) (rounds : List Round) : Type 0 where
  pub desk : Address
  pub came : Text
  pub json : Bool
  pub had : calls.exchanges desk (one_round (ask_text (ask_to_sell order)) came)
  pub told : Told
  pub is : IsReplyTo (ask_to_sell order) came told
  pub telling : TellsTold json (ask_to_sell order) told o end
  pub rounds_are : rounds ≡ one_round (ask_text (ask_to_sell order)) came

module _ (calls : Calls) (uncalled : Type 0) (order : Order) (json : Bool) (o : Outputs) (end : CommandEnd) (done : end ≡ Done) where
  one_replied : (desk : Address) (ask : Ask) → ask ≡ ask_to_sell order → (is : IsAsked calls uncalled desk json ask o end)
      → IsRepliedTo calls order o end (rounds_of_one ask o end is)
  one_replied desk ask same (replied came had told is telling) =
      let Had : Ask → Type 0 = λ a. calls.exchanges desk (one_round (ask_text a) came) in
      let Is : Ask → Type 0 = λ a. IsReplyTo a came told in
      let Tells : Ask → Type 0 = λ a. TellsTold json a told o end in
      record {
        desk = desk;
        came = came;
        json = json;
        had = subst Had same had;
        told = told;
        is = subst Is same is;
        telling = subst Tells same telling;
        rounds_are = ap (λ (a : Ask). one_round (ask_text a) came) same;
      }
  one_replied desk ask same (broken came had none told) = absurd (let end_is : end ≡ Refused = told.2 in cc)
  one_replied desk ask same (unsent why told) = absurd (let end_is : end ≡ Refused = told.2 in cc)
  one_replied desk ask same (no_room idle told) = absurd (let end_is : end ≡ Refused = told.2 in cc)

  once_replied : {texts : Texts} (desk : Address) (is : IsAskedOnce texts calls uncalled desk (selling order) json o end)
      → IsRepliedTo calls order o end (rounds_once o end is)
  once_replied desk (asked ask says is) = one_replied desk ask says.1 is
  once_replied desk (without_rows fault lacks idle told) = absurd lacks

  abbrev Replies : (texts : Texts) (desk : Address) (words : AskWords) → Type 0
  Replies texts desk words = (is : IsAskedOfDesk texts calls uncalled desk words json o end)
      → IsRepliedTo calls order o end (rounds_asked texts calls uncalled desk words json o end is)

  answer_replied : (texts : Texts) (desk : Address) (words : AskWords) → selling order ≡ words → Replies texts desk words
  answer_replied texts desk words same =
      let Of : AskWords → Type 0 = λ w. Replies texts desk w in
      let sells : Of (selling order) = λ is. once_replied desk is in
      subst Of same sells

module _ {S D R W : Type 0} (store : Ghosts S) (m : Machine D R W) (order : Order) (rounds : List Round) where
  place_replied : (place : Place) (words : AskWords) (json : Bool) (o : Outputs) (end : CommandEnd) (is : IsOfficeAsked store m place words json o end)
      → AsksAt store m place words json o end is (selling order) rounds → end ≡ Done → IsRepliedTo m.loop.calls order o end rounds
  place_replied (places.Desk desk) words json o end (untouched, shut, is) (same, are) done =
      let Replied : List Round → Type 0 = λ rs. IsRepliedTo m.loop.calls order o end rs in
      subst Replied (sym are) (answer_replied m.loop.calls m.loop.leaves order json o end done m.texts desk words same is)
  place_replied place words json o end is none done = absurd none

  carried_replied : (it : Asked) (o : Outputs) (end : CommandEnd) (is : IsCarriedOut store m it o end)
      → AsksIn store m it o end is (selling order) rounds → end ≡ Done → IsRepliedTo m.loop.calls order o end rounds
  carried_replied (asks.Office words) o end is asking done = place_replied words.place words.ask words.json o end is asking done
  carried_replied it o end is none done = absurd none

  run_replied : (words : List Text) (o : Outputs) (end : CommandEnd) (run : IsProgramRun store m words o end)
      → AsksDeskSo words o end run (selling order) rounds → end ≡ Done → IsRepliedTo m.loop.calls order o end rounds
  run_replied words o end (answered it for is) asking done = carried_replied it o end is asking done
  run_replied words o end (bad_word idle none asks_none told) asking done = absurd asking
  run_replied words o end (explained idle kind text among some says) asking done = absurd asking
  run_replied words o end (no_room_for_words idle told) asking done = absurd asking

module _ {P D R W : Type 0} (here : Here P D R W) {ports : P} {words : List Text} {end : CommandEnd} {back : Option (here.M × here.M)}
    {printed : List ℕ} (it : IsRunOf here ports words end back printed) where
  -- a run that asked a desk to sell, and ended as done, was replied to
  pub desk_replied : (order : Order) (rounds : List Round) → AsksDesk here it.run (selling order) rounds → end ≡ Done
      → IsRepliedTo (here.rest ports back).loop.calls order it.run.o it.run.end rounds
  desk_replied order rounds asking done =
      let With : P → Type 0 = λ p. IsRepliedTo (here.rest p it.run.back).loop.calls order it.run.o it.run.end rounds in
      let Gave : Option (here.M × here.M) → Type 0 = λ b. IsRepliedTo (here.rest ports b).loop.calls order it.run.o it.run.end rounds in
      let replied : With it.run.ports = run_replied _ _ order rounds it.run.words it.run.o it.run.end it.run.ran asking (it.ended ∙ done) in
      subst Gave it.gave (subst With it.with_ports replied)

-- what is granted that is wanted of an order is a sale for it, whose receipt was printed
sale_granted : (order : Order) (json : Bool) (came : Text) (g : Granted) (o : Outputs) (end : CommandEnd)
    → IsReplyTo (ask_to_sell order) came (tells.Granted g) → TellsTold json (ask_to_sell order) (tells.Granted g) o end → end ≡ Done
    → IsGrantOf wants.Sale g
    → (s : Sale) × IsReply (wanted_by (ask_to_sell order)) came (tells.Granted (grants.Sale s)) × IsSaleFor order s × PrintsSale s o end
sale_granted order json came (grants.Sale s) o end is (inl told) done wanted = (s, is.reply, is.answers.1, told)
sale_granted order json came (grants.Sale s) o end is (inr room) done wanted = absurd room.0
sale_granted order json came g o end is telling done wanted = absurd wanted

-- so is what a reply to an order told
pub sale_told : (order : Order) (json : Bool) (came : Text) (told : Told) (o : Outputs) (end : CommandEnd) → IsReplyTo (ask_to_sell order) came told
    → TellsTold json (ask_to_sell order) told o end → end ≡ Done
    → (s : Sale) × IsReply (wanted_by (ask_to_sell order)) came (tells.Granted (grants.Sale s)) × IsSaleFor order s × PrintsSale s o end
sale_told order json came (tells.Granted g) o end is telling done = sale_granted order json came g o end is telling done is.reply.tellable.1
sale_told order json came (tells.Refused refusal) o end is told done = absurd (let end_is : end ≡ Refused = told.2 in cc)
sale_told order json came tells.NoMoment o end is told done = absurd (let end_is : end ≡ Refused = told.2 in cc)

-- ---- a desk that answered

-- a conversation that ended with its input answered all of it
pub answering_of : {B : Type 0} {see : B → Seen} {gives : ℤ → Type 0} {old new : Timed B} {unread left held holds : Option (List ℕ)}
    {uses : List Use} {end : End} → Converses see gives old new unread left held holds uses end → end ≡ Closed → HasCleanDisk (see new.0).state
    → (second : ℤ) → old.1 ≡ Some (second ∷ []) → (text input : List ℕ) → unread ≡ Some input → held ≡ Some [] → holds ≡ Some text
    → AreAnswering second input text (see old.0) (see new.0)
answering_of {B} {see} {gives} {old} {new} {unread} {left} {held} {holds} {uses} {end} converses is clean second gave text input all empty written = record {
  lives = λ life kept.
      let lives = converses.lives clean life kept in
      let after : Timed Life = (lives.0, new.1) in
      let ran = run_wider (clocked gives (answers_by life_serves)) (answers_by life_serves) (unclocked (answers_by life_serves) gives)
      message_refusal_of (life, old.1) after unread left held holds end lives.1 in
      let Runs : Option (List ℤ) → End → Option (List ℕ) → Option (List ℕ) → Option (List ℕ) → Type 0 =
      λ a e u h w. IsRun (answers_by life_serves) message_refusal_of (life, a) after u left h w e in
      let Gave : Option (List ℤ) → Type 0 = λ a. Runs a end unread held holds in
      let AtEnd : End → Type 0 = λ e. Runs (Some (second ∷ [])) e unread held holds in
      let OfAll : Option (List ℕ) → Type 0 = λ u. Runs (Some (second ∷ [])) Closed u held holds in
      let Held : Option (List ℕ) → Type 0 = λ h. Runs (Some (second ∷ [])) Closed (Some input) h holds in
      let Written : Option (List ℕ) → Type 0 = λ w. Runs (Some (second ∷ [])) Closed (Some input) (Some []) w in
      let closed : Written (Some text) = subst Written written (subst Held empty (subst OfAll all (subst AtEnd is (subst Gave gave ran)))) in
      let Said : List ℕ → List ℕ → Ending → Type 0 =
      λ i t e. Conversation (timed (answers_by life_serves)) message_refusal_of ended i (life, Some (second ∷ [])) t e after in
      let OfInput : List ℕ → Type 0 = λ i. (ending : Ending) × Said i text ending in (
        after,
        lives.2,
        subst OfInput (sym closed.1) (elim closed.2 [
          | inl (expects, said) ↦ (finished expects, subst (λ t. Said closed.0 t (finished expects)) (sym said.written) said.conversation)
          | inr said ↦ (closing, subst (λ t. Said closed.0 t closing) (sym said.written) said.conversation)
        ]),
      );
}

-- the second at which a clock that stands still gave an answer
at_second : (second given : ℤ) (life : Life) (new : Timed Life) (message came : List ℕ) → IsAnsweredAt given (life, Some (second ∷ [])) message came new
    → IsAnsweredAt second (life, Some (second ∷ [])) message came new
at_second second given life new message came at =
    let Reads : Option ℤ → Type 0 = λ now. ReadsClock (Some (second ∷ [])) now new.1 in
    let gave : Gives (Some (second ∷ [])) given new.1 = subst Reads at.given at.answered.1 in
    let At : ℤ → Type 0 = λ s. IsAnsweredAt s (life, Some (second ∷ [])) message came new in
    subst At gave.0 at

-- as a sale that is told, but for the nibble, is printed and is for an order, so is the sale
pub same_receipt : (s t : Sale) → as_told t ≡ s → receipt_of s ≡ receipt_of t
unfolding receipt_of
same_receipt s t same = ap receipt_of (sym same)

-- what is for an order as it is told is for it
pub for_told : (order : Order) (s t : Sale) → as_told t ≡ s → IsSaleFor order s → IsSaleFor order t
for_told order s t same is =
    let For : Sale → Type 0 = λ x. IsSaleFor order x in
    let told : For (as_told t) = subst For (sym same) is in
    record { operator = told.operator; order_ref = told.order_ref; meter = told.meter; tender = told.tender }

-- a desk's conversation over the message of an ask is its answer
abbrev pub AnswersLine : Type 0
AnswersLine = (ask : Ask) (old new : Timed Life) (came : Text) (ending : Ending) → CanSend ask
    → Conversation (timed (answers_by life_serves)) message_refusal_of ended (ask_text ask) old came ending new
    → (second : ℤ) × IsAnsweredAt second old (ask_text ask) came new

-- what a desk told of an order it sold for it
abbrev pub SoldOfOrder : (IsLiving : Life → Type 0) → Type 0
SoldOfOrder IsLiving = (order : Order) (moment : ℕ) (old new : Timed Life) (came : Text) (s : Sale) → CanSend (ask_to_sell order)
    → IsMoment moment → IsOffice old.0.opening → IsLiving new.0
    → IsAnsweredAt (pos moment) old (ask_text (ask_to_sell order)) came new
    → IsReply (wanted_by (ask_to_sell order)) came (tells.Granted (grants.Sale s))
    → (t : Sale) × (as_told t ≡ s) × IsSoldIn new.0 order t

-- the life in which a desk sold, and its sale
pub record HasSoldFor (order : Order) (s : Sale) (books : Seen) (opening : Office) : Type 0 where
  pub life : Life
  pub kept : Represents life books
  pub opens : life.opening ≡ opening
  pub sale : Sale
  pub same : as_told sale ≡ s
  pub sold : IsSoldIn life order sale

-- a desk that answered an order by a sale sold it
pub has_sold : AnswersLine → (IsLiving : Life → Type 0) → SoldOfOrder IsLiving
    → (order : Order) (moment : ℕ) (second : ℤ) → second ≡ pos moment → IsMoment moment → CanSend (ask_to_sell order)
    → (old new : Seen) (life : Life) → Represents life old → IsOffice life.opening → ((after : Life) → Represents after new → IsLiving after)
    → (input text : List ℕ) → input ≡ ask_text (ask_to_sell order) → AreAnswering second input text old new
    → (s : Sale) → IsReply (wanted_by (ask_to_sell order)) text (tells.Granted (grants.Sale s)) → HasSoldFor order s new life.opening
has_sold line IsLiving sold order moment second is_second is_moment askable old new life kept office living input text sent answering s reply =
    let Asked : List ℕ → Type 0 = λ i. AreAnswering second i text old new in
    let At : ℤ → Type 0 = λ n. AreAnswering n (ask_text (ask_to_sell order)) text old new in
    let here = (subst At is_second (subst Asked sent answering)).lives life kept in
    let old_life : Timed Life = (life, Some (pos moment ∷ [])) in
    let after : Timed Life = here.0 in
    let held = here.2.1 in
    let given = line (ask_to_sell order) old_life after text here.2.0 askable held in
    let at = at_second (pos moment) given.0 life after (ask_text (ask_to_sell order)) text given.1 in
    let sale = sold order moment old_life after text s askable is_moment office (living after.0 here.1) at reply in
    record {
      life = after.0;
      kept = here.1;
      opens = exchanged_opening old_life after held.exchanges held.served;
      sale = sale.0;
      same = sale.1;
      sold = sale.2;
    }
