-- What is printed of a list of an office: its members, page by page.
use Rattle.std.specs.Prelude.{◌≡◌, ◌⊎◌, ⊤, ℕ, Bool, false, List, [], ◌∷◌, length, Option, Some, None}
use Rattle.std.specs.Prelude.{IfSome, Result, Ok, Err, if◌then◌else◌}
use Rattle.sqlite.specs.Effect.{Database}
use Rattle.sqlite.specs.State.{HasCleanDisk}
use Rattle.book_facts.specs.Lookups.{Finds}
use Rattle.book_facts.specs.LookupsSeen.{FindsMetersSeen, FindsSalesSeen, FindsShiftsSeen}
use Rattle.book_facts.specs.LookupsSeen.{FindsTariffsSeen, LookupSpoilt}
use Rattle.book_states.specs.declared.lookup.Found.{Found}
use Rattle.books.specs.Keeps.{BooksHaveTables, Represents, Seen}
use Rattle.asks.specs.declared.lookup.Lookup.{Lookup}
use Rattle.asks.specs.declared.lookup.Lookup.TheVariants as lookups
use Rattle.sts_fields.specs.Day.{day_at}
use Rattle.vend_core.specs.Law.Life.{Life, present}
use Rattle.office_rules.specs.declared.decision.refusal.Refusal.{Refusal}
use Rattle.office_commands.specs.office.OnlyRead.{AreOnlyRead, HaveShown}
use Rattle.office_commands.specs.office.Refused.{FailsOnlyFor, TellsStopped}
use Rattle.office_commands.specs.print.Exported.{IsPageRefusal, export_stop_end, stop_errors}
use Rattle.desk_commands.specs.print.ListTexts.{page_text, pages_text}
use Rattle.desk_commands.specs.print.Pages.{ArePages, list_behind, most_pages}
use Rattle.vend_ports.specs.print.Sink.{Sink}
use Rattle.vend_ports.specs.print.Told.{IsTold, Outputs, Takes}
use Rattle.vend_ports.specs.declared.command_end.CommandEnd.{CommandEnd}

-- ---- a page

-- this looks up a page of a list
abbrev pub IsList : Lookup → Type 0
IsList (lookups.Tariffs after) = ⊤
IsList (lookups.Meters after) = ⊤
IsList (lookups.Shifts after) = ⊤
IsList (lookups.Sales after) = ⊤
IsList lookup = ⊥

-- the page is the first of the list that the tables show at the moment, whatever their rows are
abbrev pub ShowsListPage : (moment : ℕ) → Database → Lookup → Found → Type 0
ShowsListPage moment db (lookups.Tariffs after) page =
    FindsTariffsSeen (day_at moment) after db (Ok page)
ShowsListPage moment db (lookups.Meters after) page = FindsMetersSeen after db (Ok page)
ShowsListPage moment db (lookups.Shifts after) page = FindsShiftsSeen after db (Ok page)
ShowsListPage moment db (lookups.Sales after) page = FindsSalesSeen after db (Ok page)
ShowsListPage moment db lookup page = ⊤

-- The first page of the list is printed, and the list behind it is to follow, but where a write
-- failed; or it was refused, for want of memory or as the store failed, for a cause or a row that
-- the page is made of, and nothing was printed.
abbrev pub IsListPage : (moment : ℕ) → Lookup → (json first : Bool) → (old new : Seen)
    → (before after : Sink) → Result (Option Lookup) Refusal → Type 0
IsListPage moment list json first old new before after (Ok next) =
    (page : Found)
    × (HasCleanDisk new.state → (life : Life) → Represents life old
    → Finds (present life) moment list (Ok page))
    × (HasCleanDisk new.state → BooksHaveTables old → old.stopped ≡ false
    → ShowsListPage moment old.state.now list page)
    × Takes before after (page_text json first page)
    × (next ≡ (if after.failed then None else list_behind page))
    × (new.stopped ≡ old.stopped)
IsListPage moment list json first old new before after (Err refusal) =
    Takes before after []
    × (IsList list → HasCleanDisk new.state → (life : Life) → Represents life old
    → IsPageRefusal refusal)
    × (IsList list → HasCleanDisk new.state → BooksHaveTables old → IsPageRefusal refusal)
    × TellsStopped old new refusal
    × FailsOnlyFor (LookupSpoilt moment list) old new refusal

-- ---- all pages

-- each of these pages is shown as the first of the list behind the one before it
abbrev pub ShowsListPages : (moment : ℕ) → Database → Option Lookup → List Found → Type 0
ShowsListPages moment db list [] = Unit {0}
ShowsListPages moment db None (page ∷ pages) = ⊥
ShowsListPages moment db (Some list) (page ∷ pages) =
    ShowsListPage moment db list page × ShowsListPages moment db (list_behind page) pages

-- the list behind these pages, of which each is the first of the list behind the one before it
abbrev pub list_after : Option Lookup → List Found → Option Lookup
list_after list [] = list
list_after list (page ∷ pages) = list_after (list_behind page) pages

-- it stops at the page behind these, which was refused, or at none, and then the books are stopped
-- as they were
abbrev pub IsListStop : (moment : ℕ) → Lookup → List Found → (old new : Seen) → Option Refusal
    → Type 0
IsListStop moment list pages old new None = new.stopped ≡ old.stopped
IsListStop moment list pages old new (Some refusal) =
    TellsStopped old new refusal
    × ((next : Lookup) × (list_after (Some list) pages ≡ Some next)
    × FailsOnlyFor (LookupSpoilt moment next) old new refusal)

-- The pages of a list are told, up to the last one, which is not full; or those before a page that
-- is refused, and then the refusal; or those up to one that the output did not take. Whatever the
-- rows are, they are pages that one database shows, one behind another. The books are only read.
pub record IsListed (moment : ℕ) (list : Lookup) (json : Bool) (old new : Seen) (o : Outputs)
    (end : CommandEnd) : Type 0 where
  pub pages : List Found
  pub left : Option Lookup
  pub stop : Option Refusal
  pub told : IsTold o (pages_text json pages) (stop_errors stop) (export_stop_end stop) end
  pub are : HasCleanDisk new.state → (life : Life) → Represents life old
      → ArePages (present life) moment (Some list) pages left
  pub behind : list_after (Some list) pages ≡ left
  pub seen : HaveShown (λ db. ShowsListPages moment db (Some list) pages) old new
  pub whole : stop ≡ None → o.new.failed ≡ false
      → (left ≡ None) ⊎ (length pages ≡ most_pages)
  pub refused : IsList list → HasCleanDisk new.state → (life : Life) → Represents life old
      → IfSome stop IsPageRefusal
  pub causes : IsList list → HasCleanDisk new.state → BooksHaveTables old
      → IfSome stop IsPageRefusal
  pub stops : IsListStop moment list pages old new stop
  pub reads : AreOnlyRead old new
