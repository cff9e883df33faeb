-- One run is one step of lives, whichever office the first of them opened.
use Rattle.std.proofs.Common.{◌≡◌, ◌⊎◌, List, [], Ok, inl, inr, refl, subst}
use Rattle.std.proofs.Math.Logic.{∥∥₁_map}
use Rattle.sqlite.specs.Files.{file_state, image_of}
use Rattle.sqlite.specs.Held.{Held}
use Rattle.sqlite.specs.State.{IsLive, Opens}
use Rattle.sqlite_store.specs.declared.store.FileStore.{FileStore}
use Rattle.sqlite_wal.proofs.LogLemmas.{SeenMayStay}
use Rattle.vend_core.specs.Law.Life.{LeadTo, Life}
use Rattle.office_rules.specs.Office.{IsOffice, Office, empty_office}
use Rattle.office_rules.specs.declared.decision.answer.Answer.TheVariants.{Reprinted, Sold}
use Rattle.office_rules.specs.declared.decision.request.Request.TheVariants.{Reprint, Sell}
use Rattle.office_rules.specs.declared.office.sale.Sale.{Sale}
use Rattle.books.specs.Found.{FindsOffice}
use Rattle.books.specs.Keeps.{StoreStandsFor}
use Rattle.office_commands.specs.office.Lost.{LosesNothing}
use Rattle.office_commands.specs.office.Served.{TellsReply}
use Rattle.vend_ports.specs.print.Told.{Outputs}
use Rattle.vend_ports.specs.declared.command_end.CommandEnd.{CommandEnd}
use Rattle.program_laws.specs.Selling.{PrintsSale}
use Rattle.program_laws.specs.runs.EachRun.{KeepsEachRun}
use Rattle.program_laws.specs.runs.Files.{FindsImage, IsClean}
use Rattle.program_laws.specs.runs.Here.{Here, HoldsSo, ProgramRun, use_of}
use Rattle.program_laws.specs.runs.Steps.{Asks, Goes, IsOf}
use Rattle.program_laws.specs.runs.Uses.{RunQuestion}
use Rattle.program_laws.specs.runs.Words.{WordsRequest}
use Rattle.program_laws.proofs.DeskLemmas.{HandingLaws, use_hands}
use Rattle.program_laws.proofs.LeadLemmas.{LeadingLaws}
use Rattle.program_laws.proofs.OrderLemmas.{SellingLaws}
use Rattle.program_laws.proofs.RunsLemmas.KeptLemmas.{Laws}
use Rattle.program_laws.proofs.RunsLemmas.MadeLemmas.{IsMade}
use Rattle.program_laws.proofs.RunsLemmas.WalkLemmas.{run_made}
use Rattle.program_laws.proofs.WordLemmas.AtDeskLemmas.{sells_at_desk}
use Rattle.program_laws.proofs.WordLemmas.AnswerLemmas.{run_answers}
use Rattle.program_laws.proofs.WordLemmas.OrderLemmas.{sells_again}
use Rattle.program_laws.proofs.WordLemmas.ReceiptLemmas.{reprints_again}
use Rattle.program_laws.proofs.ToldLemmas.{got_handed, order_again, printed_again, sold_for_it}

-- what a sale's reply tells is its receipt
pub tells_sale : (q : RunQuestion) (s : Sale) (o : Outputs) (end : CommandEnd) → (q.reply ≡ Ok (Sold s)) ⊎ (q.reply ≡ Ok (Reprinted s)) → TellsReply q.reply o end
    → PrintsSale s o end
tells_sale q s o end (inl sold) told = elim (subst (λ r. TellsReply r o end) sold told) [
  | inl printed ↦ printed
  | inr none ↦ absurd none.0
]
tells_sale q s o end (inr printed_again) told = elim (subst (λ r. TellsReply r o end) printed_again told) [
  | inl printed ↦ printed
  | inr none ↦ absurd none.0
]

module _ {P D R W : Type 0} (here : Here P D R W) (laws : (start : Office) → Laws start)
    (opens : (c : Held (FileStore here.M here.disk)) (o : Office) → Opens (file_state c) → IsLive (file_state c)
    → FindsOffice (file_state c).committed.trees o → StoreStandsFor (file_state c) o) (loses : LosesNothing here.disk) (stays : SeenMayStay here.disk) where
  -- all that is known of what a run made, of lives that lead from an office
  made_of : (start : Office) (lives : List Life) (run : ProgramRun here) → IsMade start (IsOf start lives) lives
      (HoldsSo here.disk here.of (here.office run.ports) (IsOf start lives)) run.back (WordsRequest run.words) run.o run.end (use_of here run)
  made_of start lives run = run_made (laws start) (IsOf start lives) lives here.disk here.salts here.of (here.office run.ports) run.back
      (here.rest run.ports run.back) opens loses stays run.words run.o run.end run.ran

  -- what a run asked is what its words ask
  asks_wanted : (run : ProgramRun here) (q : RunQuestion) → Asks here run q → WordsRequest run.words q.request × TellsReply q.reply run.o run.end
  asks_wanted run q asks = (made_of empty_office [] run).told q asks

  module _ (leading : LeadingLaws) (handing : HandingLaws) (selling : SellingLaws) where
    -- a run that found what lives may leave goes on from them
    goes_on : (start : Office) (lives : List Life) (o : Office) (run : ProgramRun here) → IsOffice start → LeadTo start lives o
        → FindsImage (use_of here run) (IsOf start lives) → IsClean (use_of here run) → ∥ ((more : List Life) × Goes here start run lives more) ∥₁
    goes_on start lives o run office led found clean =
        let made = made_of start lives run in
        let what = use_of here run in
        ∥∥₁_map (made.goes found clean (record { lead = (o, led); left = λ image is. is })) (λ it.
        let own = it.0 in
        let lived = it.1 in
        let kept = it.2 in (
          own,
          record {
            lived = lived;
            lead = kept.lead;
            left = kept.left;
            handed = λ s told. elim told [
              | inl gets ↦ got_handed what gets.0 lives own gets.1 lived s gets.2
              | inr tells ↦ use_hands handing s what lives own lived tells
            ];
            sold = λ q order s asks request sold. sold_for_it what q lives own asks lived order s request sold;
            again = λ q order s asks request there. order_again what q lives own asks lived leading selling start office kept.lead order s request there;
            printed = λ q s asks request there. printed_again what q lives own asks lived leading selling start office kept.lead s request there;
            given = λ log db is files_clean.
                let so = made.given log db is files_clean in
                (kept.left (image_of here.disk (record { log = log; db = db })) so.0, λ image out. kept.left image (so.1 image out));
          },
        ))

    -- what holds of each run
    pub each_run : KeepsEachRun here
    each_run = record {
      begins = λ image nothing. ∣ record {
        office = empty_office;
        stands = (laws empty_office).new image nothing;
        lead = refl;
        begins = λ _. refl;
      } ∣₁;
      begins_from = λ start image some stands. ∣ record { office = start; stands = stands; lead = refl; begins = λ nothing. absurd (some nothing) } ∣₁;
      goes_on = goes_on;
      finds = λ start lives run holds. (made_of start lives run).finds holds;
      clean = λ run clean. (made_of empty_office [] run).clean clean;
      asks = λ run q asks. (asks_wanted run q asks).0;
      sells = λ run order wanted. run_answers here.disk here.salts here.of (here.office run.ports) run.back (here.rest run.ports run.back) (Sell order)
          (λ rows is. let no : ⊥ = cc in no) run.words run.o run.end wanted.0 wanted.1 (sells_again run.words order wanted) run.ran;
      reprints = λ run number wanted. run_answers here.disk here.salts here.of (here.office run.ports) run.back (here.rest run.ports run.back) (Reprint number)
          (λ rows is. let no : ⊥ = cc in no) run.words run.o run.end wanted.0 wanted.1 (reprints_again run.words number wanted) run.ran;
      sells_at_desk = λ run order says. sells_at_desk order run.words run.o run.end says run.ran;
      told = λ run q asks. (asks_wanted run q asks).1;
      prints = λ run q s asks sold. tells_sale q s run.o run.end sold (asks_wanted run q asks).1;
    }
