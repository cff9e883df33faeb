-- Runs on files that lives left.
use Rattle.std.proofs.Common.{◌≡◌, ◌∙◌, ◌⊎◌, ◌++◌, ℕ, List, [], ◌∷◌, Option, Result, Ok, Err, inl, inr, refl, sym, subst, append-nil, arith}
use Rattle.std.specs.Prelude.{Contains, IsTrue}
use Rattle.std.proofs.lemmas.List.Elements.{Contains-append_left, Contains-push}
use Rattle.std.proofs.Math.Logic.{∥∥₁_map}
use Rattle.sqlite.proofs.FileLemmas.{is_something}
use Rattle.sqlite.specs.Closing.{HoldsAlone, files_left}
use Rattle.sqlite.specs.Files.{HoldsDatabase, image_of}
use Rattle.sqlite_disk.specs.declared.Disk as disk
use Rattle.sqlite_disk.specs.declared.Files.{Files}
use Rattle.sqlite_trees.specs.Tree.{Trees}
use Rattle.sqlite_wal.specs.Reads.{AreClean}
use Rattle.sqlite_wal.specs.Recovery.{Image}
use Rattle.sts_fields.specs.Text.{Text}
use Rattle.papers.specs.Receipt.{receipt_of}
use Rattle.books.specs.Found.{FindsOffice}
use Rattle.book_states.specs.Stores.{RecoversTo}
use Rattle.office_rules.proofs.OfficeLemmas.RowLemmas.{both_true}
use Rattle.office_rules.specs.Office.{IsOffice, Office, empty_office}
use Rattle.office_rules.specs.declared.decision.answer.Answer.{Answer}
use Rattle.office_rules.specs.declared.decision.answer.Answer.TheVariants.{Sold}
use Rattle.office_rules.specs.declared.decision.refusal.Refusal.{Refusal}
use Rattle.office_rules.specs.declared.decision.request.Order.{Order}
use Rattle.office_rules.specs.declared.decision.request.Request.TheVariants.{Sell}
use Rattle.office_rules.specs.declared.decision.request.Stamped.{Stamped}
use Rattle.office_rules.specs.declared.office.sale.Sale.{Sale}
use Rattle.office_commands.specs.office.Served.{TellsReply}
use Rattle.program_laws.specs.Selling.{PrintsSale}
use Rattle.program_laws.specs.runs.EachRun.{KeepsEachRun}
use Rattle.program_laws.specs.runs.Promise.{ComesAfter, KeepsPromise}
use Rattle.program_laws.specs.runs.Files.{AreFoundSo, IsLetGoClean, LetsGoClean}
use Rattle.program_laws.specs.runs.Here.{Here, HoldsSo, use_of}
use Rattle.program_laws.specs.runs.Steps.{AreSoldFor, Asks, Goes, IsOf, IsOfOffice, TellsNoRequest}
use Rattle.program_laws.specs.runs.Steps.TellsNoRequest.{no_file, no_moment, no_office, no_room}
use Rattle.program_laws.specs.runs.Uses.{RunEnding, RunQuestion, RunUse, connected, cut_off, left_blank, let_go, unconnected, unseen}
use Rattle.program_laws.specs.runs.Words.{WordsRequest}
use Rattle.vend_core.specs.Law.Life.{Exchange, LeadTo, Life}
use Rattle.vend_core.specs.Law.LifeLaws.{extended_by}
use Rattle.vend_ports.specs.declared.command_end.CommandEnd.{CommandEnd}
use Rattle.vend_ports.specs.declared.command_end.CommandEnd.TheVariants.{Done, Refused}
use Rattle.vend_ports.specs.print.Told.{Outputs}
use Rattle.law_witnesses.specs.Runs.{IsRunOf}
use Rattle.law_witnesses.proofs.PrintLemmas.{taken_whole}

-- files that hold a database of an office are of the lives that lead to it
pub is_of : ((trees : Trees) (o : Office) → RecoversTo trees o → FindsOffice trees o) → (image : Image) (db : Trees) (lives : List Life) (o : Office)
    → LeadTo empty_office lives o → RecoversTo db o → HoldsAlone image db → IsOf empty_office lives image
is_of shows image db lives o lead there alone =
    let Shows : Trees → Type 0 = λ trees. FindsOffice trees o in
    let Of : Type 0 = IsOfOffice empty_office lives image in
    let of : HoldsDatabase image db → Of = λ held. record {
      office = o;
      stands = λ trees may. subst Shows (sym (may.holds db held)) (shows db o there);
      lead = lead;
      begins = λ nothing. absurd (is_something image db held nothing);
    } in
    ∥∥₁_map alone.both of

-- a life whose last reply is a sale sold it
pub sold_last : (before : Life) (at : Stamped) (reply : Result Answer Refusal) (order : Order) (s : Sale) → at.request ≡ Sell order → reply ≡ Ok (Sold s)
    → AreSoldFor (extended_by before at reply ∷ []) order s
sold_last before at reply order s asks is =
    let exchange : Result Answer Refusal → Exchange = λ r. record { request = at; reply = r } in
    let Holds : Result Answer Refusal → Type 0 = λ r. Contains (before.exchanges ++ exchange reply ∷ []) (exchange r) in
    (extended_by before at reply, (0, omega arith, refl), at, asks, subst Holds is (Contains-push before.exchanges (exchange reply)))

-- what more lives come after, they sold too
pub sold_before : (lives more : List Life) (order : Order) (s : Sale) → AreSoldFor lives order s → AreSoldFor (lives ++ more) order s
sold_before lives more order s (life, there, at, is, sold) = (life, Contains-append_left lives more life there, at, is, sold)

-- a command that told why it asked nothing was refused
pub refused : (o : Outputs) (end : CommandEnd) → TellsNoRequest o end → end ≡ Refused
refused o end (no_room told) = told.2
refused o end (no_moment told) = told.2
refused o end (no_file told) = told.2
refused o end (no_office fault told) = told.2

-- so was one that got no answer
not_done : (reply : Result Answer Refusal) (refusal : Refusal) (o : Outputs) (end : CommandEnd) → TellsReply reply o end → reply ≡ Err refusal
    → end ≡ Done → ⊥
not_done reply refusal o end told is done =
    let Tells : Result Answer Refusal → Type 0 = λ r. TellsReply r o end in
    let end_is : end ≡ Refused = (subst Tells is told).2 in
    cc

-- files that never return anything but what was written are let go clean
module _ {M : Type 0} (g : disk.Ghosts M) (all : (it : M) → IsTrue (g.is_clean it)) where
  all_clean : (files : M × M) → AreClean g files.0 files.1
  all_clean files = both_true _ _ (all files.0) (all files.1)

  end_clean : (last : RunEnding g) → IsLetGoClean last
  end_clean (left_blank files) = all_clean (files.log, files.db)
  end_clean (let_go s files) = all_clean (files.log, files.db)
  end_clean (cut_off s found left) = (all_clean (found.log, found.db), all_clean (files_left left))

  -- a run over such files lets them go clean, whatever it made of them
  pub let_go_clean : (made : RunUse g) → LetsGoClean made
  let_go_clean unseen = tt
  let_go_clean (unconnected found left) = all_clean (files_left left)
  let_go_clean (connected image living last) = end_clean last

module _ {P D R W : Type 0} (here : Here P D R W) (law : KeepsEachRun here) where
  -- the file of these ports is these two files
  abbrev pub HasThese : P → Files here.M → Type 0
  HasThese ports files = (path : Text) (wait : ℕ) (found : Files here.M)
      → here.of.finds (here.office ports) path wait found.log found.db ⊎ here.of.meets (here.office ports) path wait found.log found.db
      → (found ≡ files) × (here.of.image (here.office ports) path ≡ image_of here.disk files)

  module _ {ports : P} {words : List Text} {end : CommandEnd} {back : Option (here.M × here.M)} {printed : List ℕ}
      (it : IsRunOf here ports words end back printed) where
    -- a run on files that lives left goes on from them
    pub goes_on_from : ((it : here.M) → IsTrue (here.disk.is_clean it)) → (start : Office) (lives : List Life) (o : Office) (files : Files here.M) → IsOffice start
        → LeadTo start lives o → AreFoundSo here.disk files (IsOf start lives) → HasThese ports files
        → ∥ ((more : List Life) × Goes here start it.run lives more) ∥₁
    goes_on_from always start lives o files office lead found these =
        let Holds : P → Type 0 = λ p. HoldsSo here.disk here.of (here.office p) (IsOf start lives) in
        let FoundSo : Files here.M → Type 0 = λ f. AreFoundSo here.disk f (IsOf start lives) in
        let Of : Image → Type 0 = λ image. IsOf start lives image in
        let mine : Holds ports = λ path wait f how.
        let same = these path wait f how in (subst FoundSo (sym same.0) found, subst Of (sym same.1) found.0) in
        law.goes_on start lives o it.run office lead (law.finds start lives it.run (subst Holds (sym it.with_ports) mine)) (law.clean it.run (let_go_clean here.disk always (use_of here it.run)))

    -- what was told of a sale is what was printed
    pub printed_of : (s : Sale) → PrintsSale s it.run.o it.run.end → printed ≡ receipt_of s
    printed_of s prints = taken_whole it.run.o.old it.run.o.new (receipt_of s) printed prints.0 it.before it.sound it.whole it.after

    -- where words say an order that was sold, a run by them that ends as done asks it and gets that sale
    pub sells_so : (start : Office) (lives more : List Life) (order : Order) (s : Sale) → Goes here start it.run lives more
        → WordsRequest words (Sell order) → AreSoldFor (lives ++ more) order s → end ≡ Done
        → (q : RunQuestion) × Asks here it.run q × (q.request ≡ Sell order) × (q.reply ≡ Ok (Sold s))
    sells_so start lives more order s goes says sold is_done =
        let Says : List Text → Type 0 = λ ws. WordsRequest ws (Sell order) in
        let done : it.run.end ≡ Done = it.ended ∙ is_done in
        elim (law.sells it.run order (subst Says (sym it.by_words) says)) [
          | inl asked ↦ elim (goes.again asked.0 order s asked.1 asked.2 sold) [
            | inl answered ↦ (asked.0, asked.1, asked.2, answered)
            | inr failed ↦ elim failed [
              | inl memory ↦ absurd (not_done asked.0.reply _ it.run.o it.run.end (law.told it.run asked.0 asked.1) memory done)
              | inr store ↦ absurd (not_done asked.0.reply _ it.run.o it.run.end (law.told it.run asked.0 asked.1) store done)
            ]
          ]
          | inr none ↦ absurd (let end_is : it.run.end ≡ Refused = refused it.run.o it.run.end none in cc)
        ]

    -- so it prints the receipt
    pub prints_receipt : (start : Office) (lives more : List Life) (order : Order) (s : Sale) → Goes here start it.run lives more
        → WordsRequest words (Sell order) → AreSoldFor (lives ++ more) order s → end ≡ Done → printed ≡ receipt_of s
    prints_receipt start lives more order s goes says sold is_done =
        let asked = sells_so start lives more order s goes says sold is_done in
        printed_of s (law.prints it.run asked.0 s asked.1 (inl asked.3))

module _ {P D R W Q E S T : Type 0} (here : Here P D R W) (there : Here Q E S T) (first : KeepsEachRun here) (second : KeepsEachRun there)
    (law : KeepsPromise here there) where
  -- a run by the same words on what another gave back, on whatever machine, prints the same receipt
  pub prints_again : {ports : P} {others : Q} {words : List Text} {end last : CommandEnd} {back : Option (here.M × here.M)}
      {left : Option (there.M × there.M)} {printed text : List ℕ}
      (it : IsRunOf here ports words end back printed) (again : IsRunOf there others words last left text)
      (start : Office) (lives mine more : List Life) (order : Order) (s : Sale) → Goes here start it.run lives mine
      → Goes there start again.run (lives ++ mine) more → WordsRequest words (Sell order) → AreSoldFor lives order s → end ≡ Done
      → last ≡ Done → text ≡ printed
  prints_again {words = words} it again start lives mine more order s went goes says sold is_done last_done =
      let sold_then = sold_before lives mine order s sold in
      let asked = sells_so here first it start lives mine order s went says sold_then is_done in
      let one = prints_receipt here first it start lives mine order s went says sold_then is_done in
      let Before : List Life → Type 0 = λ before. Goes there start again.run before more in
      let comes : ComesAfter here there start it.run again.run = record {
        before = lives;
        own = mine;
        between = [];
        more = more;
        went = went;
        goes = subst Before (sym (append-nil (lives ++ mine))) goes;
      } in
      let done : again.run.end ≡ Done = again.ended ∙ last_done in
      elim (law.same_sell start it.run again.run order s asked.0 comes (it.by_words ∙ sym again.by_words) asked.1 asked.2 asked.3) [
        | inl prints ↦ printed_of there second again s prints ∙ sym one
        | inr fails ↦ elim fails [
          | inl store ↦ absurd (let end_is : again.run.end ≡ Refused = store.2 in cc)
          | inr none ↦ absurd (let end_is : again.run.end ≡ Refused = refused again.run.o again.run.end none in cc)
        ]
      ]
