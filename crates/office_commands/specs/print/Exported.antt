-- What is printed of all sales of an office: the export of them, in pages.
use Rattle.std.specs.Prelude.{◌≡◌, ◌⊎◌, ℕ, ◌-◌, ◌==◌, true, false, Bool, List, [], ◌∷◌, ◌++◌, length}
use Rattle.std.specs.Prelude.{drop, take, slice_get, Option, Some, None, option_map, Result, Ok, Err}
use Rattle.std.specs.Prelude.{if◌then◌else◌}
use Rattle.std.specs.List.{flat_map}
use Rattle.sqlite.specs.State.{HasCleanDisk}
use Rattle.sqlite.specs.Effect.{Database}
use Rattle.book_tables.specs.reading.Questions.{the_sales_after}
use Rattle.book_tables.specs.reading.Seen.{HasSpoilt, ShowsAll}
use Rattle.books.specs.Keeps.{BooksHaveTables, Represents, Seen}
use Rattle.papers.specs.Export.{export_of}
use Rattle.sts_fields.specs.Text.{Text}
use Rattle.vend_core.specs.Law.Life.{Life, present}
use Rattle.office_rules.specs.declared.decision.refusal.Refusal.{Refusal}
use Rattle.office_rules.specs.declared.decision.refusal.Refusal.TheVariants.{Memory, Stopped, Store}
use Rattle.office_rules.specs.declared.office.sale.Sale.{Sale}
use Rattle.vend_ports.specs.print.Printed.{refusal_line}
use Rattle.office_commands.specs.office.OnlyRead.{AreOnlyRead, HaveShown}
use Rattle.office_commands.specs.office.Refused.{FailsOnlyFor, RefusesToRead, TellsStopped}
use Rattle.vend_ports.specs.print.Sink.{Sink}
use Rattle.vend_ports.specs.print.Told.{IsTold, Outputs, Takes}
use Rattle.vend_ports.specs.declared.command_end.CommandEnd.{CommandEnd}
use Rattle.vend_ports.specs.declared.command_end.CommandEnd.TheVariants as how

-- ---- a page

-- the sales of a page behind so many: a thousand
abbrev pub page_behind : List Sale → ℕ → List Sale
page_behind sales number = take 1000 (drop number sales)

-- these are the sales of the page in every life that the books kept
abbrev pub IsPageOf : ℕ → (old new : Seen) → List Sale → Type 0
IsPageOf number old new sales = HasCleanDisk new.state → (life : Life) → Represents life old
    → sales ≡ page_behind (present life).sales number

-- the tables show these sales behind the number, a thousand at most
abbrev pub ShowsPage : Database → ℕ → List Sale → Type 0
ShowsPage db number = ShowsAll (the_sales_after number 1000) db

-- these are the sales that the tables showed behind the number, whatever their rows are
abbrev pub IsPageSeen : ℕ → (old new : Seen) → List Sale → Type 0
IsPageSeen number old new sales =
    HasCleanDisk new.state → BooksHaveTables old → old.stopped ≡ false
    → ShowsPage old.state.now number sales

-- a row of a page of a thousand sales, behind the number, is spoilt
abbrev pub IsPageSpoilt : ℕ → Database → Type 0
IsPageSpoilt number = HasSpoilt (the_sales_after number 1000)

-- a page is refused for want of memory, for its sales or its text; or as the store failed, or the
-- books are stopped
abbrev pub IsPageRefusal : Refusal → Type 0
IsPageRefusal refusal = (refusal ≡ Memory) ⊎ ((refusal ≡ Store) ⊎ (refusal ≡ Stopped))

-- the number that the next page begins behind: that of the last sale, where the page is full
abbrev pub number_behind : List Sale → Option ℕ
number_behind page =
    option_map (λ s. s.number)
    (if length page == 1000 then slice_get page (length page - 1) else None)

-- The sales behind the number are printed, the first page behind the header, and another page
-- follows where this one is full and no write failed; or it was refused for such a cause, and
-- nothing was printed.
abbrev pub IsPage : ℕ → (first : Bool) → (old new : Seen) → (before after : Sink)
    → Result (Option ℕ) Refusal → Type 0
IsPage number first old new before after (Ok next) =
    (sales : List Sale) × IsPageOf number old new sales × IsPageSeen number old new sales
    × Takes before after (export_of first sales)
    × (next ≡ (if after.failed then None else number_behind sales))
    × (new.stopped ≡ old.stopped)
IsPage number first old new before after (Err refusal) =
    Takes before after [] × IsPageRefusal refusal
    × RefusesToRead (λ cause. cause ≡ Memory) (IsPageSpoilt number) old new refusal

-- ---- all pages

-- what a refusal of a page tells, and how the command ends with it or without one
abbrev pub stop_errors : Option Refusal → Text
stop_errors None = []
stop_errors (Some refusal) = refusal_line refusal

abbrev pub export_stop_end : Option Refusal → CommandEnd
export_stop_end None = how.Done
export_stop_end (Some refusal) = how.Refused

-- the text is a beginning of the export of all these sales; it is the whole where no page was
-- refused and no write failed
pub record IsExportOf (sales : List Sale) (text : Text) (stop : Option Refusal) (failed : Bool) :
    Type 0 where
  pub begins : (rest : Text) × (text ++ rest ≡ export_of true sales)
  pub whole : stop ≡ None → failed ≡ false → text ≡ export_of true sales

-- the export of the sales of all these pages together: nothing is printed before the first page
abbrev pub text_of_pages : List (List Sale) → Text
text_of_pages [] = []
text_of_pages (page ∷ pages) = export_of true (flat_map (λ sales. sales) (page ∷ pages))

-- each of these pages is shown behind the number that the one before it ends with
abbrev pub ShowsPages : Database → Option ℕ → List (List Sale) → Type 0
ShowsPages db number [] = Unit {0}
ShowsPages db None (page ∷ pages) = ⊥
ShowsPages db (Some number) (page ∷ pages) =
    ShowsPage db number page × ShowsPages db (number_behind page) pages

-- the number that a page behind these begins behind; none where the last of them is not full
abbrev pub number_left : Option ℕ → List (List Sale) → Option ℕ
number_left number [] = number
number_left number (page ∷ pages) = number_left (number_behind page) pages

-- more full pages than a file has: the numbers of sales go up to 10^9
abbrev pub most_full : ℕ
most_full = 1000001

-- it stops at the page behind these, which was refused, or at none, and then the books are stopped
-- as they were
abbrev pub StopsExport : List (List Sale) → (old new : Seen) → Option Refusal → Type 0
StopsExport pages old new None = new.stopped ≡ old.stopped
StopsExport pages old new (Some refusal) =
    IsPageRefusal refusal × TellsStopped old new refusal
    × ((number : ℕ) × (number_left (Some 0) pages ≡ Some number)
    × FailsOnlyFor (IsPageSpoilt number) old new refusal)

-- The export of all sales of the present office is told, or a beginning of it up to a page that is
-- refused, and then the refusal, or up to a page that the output did not take. Whatever the rows
-- are, it is the export of pages that one database shows, the first behind 0 and each next one
-- behind the last sale of the one before it, up to one that is not full. The books are only read.
pub record IsExported (old new : Seen) (o : Outputs) (end : CommandEnd) : Type 0 where
  pub pages : List (List Sale)
  pub text : Text
  pub of_pages : text ≡ text_of_pages pages
  pub stop : Option Refusal
  pub told : IsTold o text (stop_errors stop) (export_stop_end stop) end
  pub stops : StopsExport pages old new stop
  pub sales : HasCleanDisk new.state → (life : Life) → Represents life old
      → IsExportOf (present life).sales text stop o.new.failed
  pub seen : HaveShown (λ db. ShowsPages db (Some 0) pages) old new
  pub whole : stop ≡ None → o.new.failed ≡ false
      → (number_left (Some 0) pages ≡ None) ⊎ (length pages ≡ most_full)
  pub reads : AreOnlyRead old new
