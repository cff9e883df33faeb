-- What holds of lives that runs add one after another, on one machine and on others.
use Rattle.std.proofs.Common.{◌≡◌, ◌⊎◌, ◌∙◌, ℕ, List, ◌∷◌, ◌++◌, Result, Ok, Err, inl, inr, sym, subst}
use Rattle.std.specs.Prelude.{◌≤◌, All, Contains, sum_by}
use Rattle.std.proofs.Math.Logic.{∥∥₁_map}
use Rattle.std.proofs.lemmas.List.Elements.{Contains-append_left}
use Rattle.sqlite_disk.specs.declared.Disk as disk
use Rattle.sqlite_wal.specs.Recovery.{Image}
use Rattle.vend_core.specs.Law.Life.{IsHanded, LeadTo, Life}
use Rattle.office_rules.specs.Office.{IsOffice, Office}
use Rattle.office_rules.specs.declared.decision.answer.Answer.{Answer}
use Rattle.office_rules.specs.declared.decision.answer.Answer.TheVariants.{Sold}
use Rattle.office_rules.specs.declared.decision.refusal.Refusal.{Refusal}
use Rattle.office_rules.specs.declared.decision.refusal.Refusal.TheVariants.{Memory, Store}
use Rattle.office_rules.specs.declared.decision.request.Order.{Order}
use Rattle.office_rules.specs.declared.decision.request.Request.TheVariants.{Reprint, Sell}
use Rattle.office_rules.specs.declared.office.sale.Sale.{Sale}
use Rattle.sqlite.specs.Files.{image_of}
use Rattle.sts_token.specs.Meter.{Accepts, credit_of}
use Rattle.sts_token.specs.Token.{BlockFunction}
use Rattle.vend_core.specs.Law.SoldTokens.{AreMadeFor, SimMeter, accepted_of, reads_by, tokens_of}
use Rattle.office_rules.specs.Law.NewSale.{fields_of}
use Rattle.office_rules.specs.Law.Cash.{AskForReports, cash_of, cash_of_reports}
use Rattle.office_rules.specs.declared.decision.request.Stamped.{Stamped}
use Rattle.office_commands.specs.office.Served.{TellsReply}
use Rattle.program_laws.specs.Selling.{PrintsSale}
use Rattle.program_laws.specs.runs.EachRun.{KeepsEachRun}
use Rattle.program_laws.specs.runs.Files.{FindsImage, MayHold}
use Rattle.program_laws.specs.runs.Here.{Here, ProgramRun, use_of}
use Rattle.program_laws.specs.runs.Promise.{ComesAfter, KeepsPromise}
use Rattle.vend_ports.specs.print.Told.{Outputs}
use Rattle.vend_ports.specs.declared.command_end.CommandEnd.{CommandEnd}
use Rattle.program_laws.specs.runs.Steps.{AreSoldFor, Asks, FailsToPrint, IsOf, IsUnlessFailed, Tells}
use Rattle.program_laws.specs.runs.Steps.TellsNoRequest.{no_room}
use Rattle.program_laws.specs.runs.Words.{WordsRequest}
use Rattle.program_laws.specs.runs.Uses.{RunQuestion, RunUse, connected, unconnected, unseen}
use Rattle.program_laws.proofs.AskedLemmas.ServedLemmas.{desk_sold, desk_told}
use Rattle.program_laws.proofs.AtDeskLemmas.ListLemmas.{OnePage}
use Rattle.program_laws.proofs.AtDeskLemmas.OneLemmas.{DeskLaws}
use Rattle.program_laws.proofs.DeskLemmas.{handed_more}
use Rattle.program_laws.proofs.LeadLemmas.{LeadingLaws}
use Rattle.program_laws.proofs.OrderLemmas.{SellingLaws, sold_handed, sold_in_lives}
use Rattle.program_laws.proofs.WordLemmas.OrderLemmas.{same_order}

-- what the laws of lives say of the sales of an office, of its reports and of a meter
pub record HistoryLaws : Type 0 where
  pub one_identifier : (start : Office) (lives : List Life) (o : Office) (a b : Sale) → IsOffice start → LeadTo start lives o → IsHanded lives a
      → IsHanded lives b → a.meter ≡ b.meter → a.base ≡ b.base → a.tid ≡ b.tid → a ≡ b
  pub one_number : (start : Office) (lives : List Life) (o : Office) (a b : Sale) → IsOffice start → LeadTo start lives o → IsHanded lives a
      → IsHanded lives b → a.number ≡ b.number → a ≡ b
  pub cash : (start : Office) (lives : List Life) (forward : BlockFunction) (o : Office) (ats : ℕ → Stamped) → IsOffice start → LeadTo start lives o
      → AskForReports ats → cash_of_reports forward o ats ≡ cash_of o.sales
  pub credit : (start : Office) (lives : List Life) (o : Office) (m : SimMeter) (sales came : List Sale) → AreMadeFor start lives o m sales
      → All (Contains sales) came
      → credit_of (reads_by m) (tokens_of came) ≡ sum_by (λ s. s.tenths) (accepted_of (reads_by m) (tokens_of came) sales)
  pub at_most_sold : (start : Office) (lives : List Life) (o : Office) (m : SimMeter) (sales came : List Sale) → AreMadeFor start lives o m sales
      → All (Contains sales) came → credit_of (reads_by m) (tokens_of came) ≤ sum_by (λ s. s.tenths) sales
  pub in_order : (start : Office) (lives : List Life) (o : Office) (m : SimMeter) (earlier later : List Sale) (s : Sale)
      → AreMadeFor start lives o m (earlier ++ s ∷ later) → Accepts (reads_by m) (tokens_of earlier) s.digits (fields_of s)

-- what is found so is found so in other words
pub found_as : {M : Type 0} {g : disk.Ghosts M} (made : RunUse g) (A B : Image → Type 0) → ((image : Image) → A image → B image)
    → FindsImage made A → FindsImage made B
found_as unseen A B gives found = tt
found_as {g = g} (unconnected files left) A B gives found = (gives (image_of g files) found.0, λ image out. gives image (found.1 image out))
found_as (connected image living last) A B gives found = gives image found

-- what some lives sold for an order these and more sold
pub sold_more : (lives more : List Life) (order : Order) (s : Sale) → AreSoldFor lives order s → AreSoldFor (lives ++ more) order s
sold_more lives more order s (life, there, at, asked, sold) = (life, Contains-append_left lives more life there, at, asked, sold)

-- what some lives sold for one order is one sale
pub one_order : (leading : LeadingLaws) (selling : SellingLaws) (start : Office) (lives : List Life) (o : Office) (order : Order) (a b : Sale)
    → IsOffice start → LeadTo start lives o → AreSoldFor lives order a → AreSoldFor lives order b → a ≡ b
one_order leading selling start lives o order a b office led sold_a sold_b =
    let its_a = sold_in_lives selling order a start lives o office led sold_a in
    let its_b = sold_in_lives selling order b start lives o office led sold_b in
    leading.one_ref start lives o a b office led (sold_handed order a lives sold_a) (sold_handed order b lives sold_b) (its_a.operator ∙ sym its_b.operator)
    (its_a.order_ref ∙ sym its_b.order_ref)

-- a reply that failed is told so
fails_to_print : (r : Result Answer Refusal) (o : Outputs) (end : CommandEnd) → (r ≡ Err Memory) ⊎ (r ≡ Err Store) → TellsReply r o end → FailsToPrint o end
fails_to_print r o end (inl memory) told = inr (no_room (subst (λ x. TellsReply x o end) memory told))
fails_to_print r o end (inr store) told = inl (subst (λ x. TellsReply x o end) store told)

-- ---- a run, and one after it

module _ {P D R W Q E S T : Type 0} (here : Here P D R W) (there : Here Q E S T) (each : KeepsEachRun here) (each_there : KeepsEachRun there) where
  -- the same order gets the same sale
  sold_again : (start : Office) (first : ProgramRun here) (again : ProgramRun there) (order : Order) (s : Sale) (p q : RunQuestion)
      → ComesAfter here there start first again → Asks here first p → p.request ≡ Sell order → p.reply ≡ Ok (Sold s)
      → Asks there again q → q.request ≡ Sell order → IsUnlessFailed q.reply (Sold s)
  sold_again start first again order s p q comes asks_first first_request sold asks request =
      let before = comes.before ++ comes.own in
      comes.goes.again q order s asks request (sold_more (before ++ comes.between) comes.more order s
      (sold_more before comes.between order s (comes.went.sold p order s asks_first first_request sold)))

  -- so the same words print the same receipt
  same_sell : (start : Office) (first : ProgramRun here) (again : ProgramRun there) (order : Order) (s : Sale) (p : RunQuestion)
      → ComesAfter here there start first again → first.words ≡ again.words → Asks here first p → p.request ≡ Sell order → p.reply ≡ Ok (Sold s)
      → PrintsSale s again.o again.end ⊎ FailsToPrint again.o again.end
  same_sell start first again order s p comes same asks request sold =
      let said = subst (WordsRequest first.words) request (each.asks first p asks) in
      elim (each_there.sells again order (subst (λ words. WordsRequest words (Sell order)) same said)) [
        | inr untold ↦ inr (inr untold)
        | inl (q, asks_again, request_again) ↦
            let told = each_there.told again q asks_again in
            elim (sold_again start first again order s p q comes asks request sold asks_again request_again) [
              | inl granted ↦ inl (each_there.prints again q s asks_again (inl granted))
              | inr fails ↦ inr (fails_to_print q.reply again.o again.end fails told)
            ]
      ]

  -- a receipt that is asked for prints what was told, or why not
  same_receipt : (start : Office) (first : ProgramRun here) (again : ProgramRun there) (s : Sale) (comes : ComesAfter here there start first again)
      → Tells here first comes.before comes.own comes.went.lived s → WordsRequest again.words (Reprint s.number)
      → PrintsSale s again.o again.end ⊎ FailsToPrint again.o again.end
  same_receipt start first again s comes told wanted = elim (each_there.reprints again s.number wanted) [
    | inr untold ↦ inr (inr untold)
    | inl (q, asks, request) ↦
        let there = handed_more (comes.before ++ comes.own) comes.between s (comes.went.handed s told) in
        elim (comes.goes.printed q s asks request there) [
          | inl granted ↦ inl (each_there.prints again q s asks (inr granted))
          | inr fails ↦ inr (fails_to_print q.reply again.o again.end fails (each_there.told again q asks))
        ]
  ]

  module _ (leading : LeadingLaws) (selling : SellingLaws) (history : HistoryLaws) (desk : DeskLaws) (one : OnePage) where
    -- all of it
    pub promise : KeepsPromise here there
    promise = record {
      follows = λ start run lives more next goes found.
          found_as (use_of there next) (MayHold (use_of here run) (IsOf start lives)) (IsOf start (lives ++ more)) goes.left found;
      stands = λ start lives image s office of handed.
          ∥∥₁_map of (λ it. (it.office, it.stands, leading.stands start lives it.office s office it.lead handed));
      one_identifier = history.one_identifier;
      one_number = history.one_number;
      one_ref = leading.one_ref;
      one_order = one_order leading selling;
      sold_again = sold_again;
      order_again = λ start again lives more order s q goes there asks request. goes.again q order s asks request (sold_more lives more order s there);
      one_said = same_order;
      same_sell = same_sell;
      same_receipt = same_receipt;
      printed_again = λ start first again s q comes told asks request.
          comes.goes.printed q s asks request (handed_more (comes.before ++ comes.own) comes.between s (comes.went.handed s told));
      at_desk = desk_told here there desk one leading;
      sold_at_desk = desk_sold here there desk one leading;
      cash = λ start lives o forward ats. history.cash start lives forward o ats;
      credit = history.credit;
      at_most_sold = history.at_most_sold;
      in_order = history.in_order;
    }
