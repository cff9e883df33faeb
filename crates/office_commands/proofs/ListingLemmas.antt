-- Pages of a list.
use Rattle.std.proofs.Common.{◌≡◌, ◌∙◌, ℕ, ◌+◌, ◌==◌, Bool, true, false, List, [], ◌∷◌, ◌++◌, length, Option, option_map, Some, None, Result, Ok, Err, refl, ap, sym, subst, append-nil, inl, inr}
use Rattle.std.specs.Prelude.{if◌then◌else◌}
use Rattle.std.proofs.lemmas.Bool.{cases_Bool}
use Rattle.std.proofs.lemmas.List.{length-append}
use Rattle.sqlite.specs.Effect.{Database}
use Rattle.sqlite.specs.State.{HasCleanDisk}
use Rattle.book_facts.specs.Lookups.{Finds}
use Rattle.book_facts.specs.LookupsSeen.{FindsSeen, IsFoundSeen, LookupSpoilt}
use Rattle.asks.specs.declared.lookup.Lookup.{Lookup}
use Rattle.asks.specs.declared.lookup.Lookup.TheVariants as lookups
use Rattle.book_states.specs.declared.lookup.Found.{Found}
use Rattle.book_states.specs.declared.lookup.Found.TheVariants as what
use Rattle.book_states.specs.declared.lookup.Health.{Health}
use Rattle.books.specs.Keeps.{BooksHaveTables, Represents, Seen}
use Rattle.books.specs.Looking.{IsFoundAt}
use Rattle.vend_core.specs.Law.Life.{Life, present}
use Rattle.office_rules.specs.Office.{Office}
use Rattle.office_rules.specs.declared.decision.refusal.Refusal.{Refusal}
use Rattle.office_rules.specs.declared.decision.refusal.Refusal.TheVariants.{Memory, Store, Stopped}
use Rattle.office_commands.proofs.OnlyReadLemmas.{fails_before, read_none, read_then, shown_so, shown_then, shows_before}
use Rattle.office_commands.proofs.RefusedLemmas.{stopped_before}
use Rattle.desk_commands.proofs.PageLemmas.{more_text, some_behind}
use Rattle.vend_ports.proofs.TakeLemmas.{takes_as, takes_last, takes_next, takes_none}
use Rattle.office_commands.specs.office.OnlyRead.{AreOnlyRead, HaveShown}
use Rattle.office_commands.specs.office.Refused.{TellsStopped}
use Rattle.office_commands.specs.print.Exported.{IsPageRefusal}
use Rattle.office_commands.specs.print.Listing.{IsList, IsListPage, IsListed, ShowsListPage, ShowsListPages, list_after}
use Rattle.desk_commands.specs.print.Pages.{ArePages, last_of_full, list_behind, most_pages}
use Rattle.desk_commands.specs.print.ListTexts.{page_text, pages_text}
use Rattle.vend_ports.specs.print.Printed.{refusal_line}
use Rattle.vend_ports.specs.print.Sink.{Sink}
use Rattle.vend_ports.specs.print.Told.{Takes, outputs}
use Rattle.vend_ports.specs.declared.command_end.CommandEnd.TheVariants as how

-- ---- what is found

abbrev found_one : Found → Result Found Refusal
found_one page = Ok page

abbrev refused_so : Refusal → Result Found Refusal
refused_so refusal = Err refusal

-- what was found is in the office
pub page_found : (life : Life) (moment : ℕ) (lookup : Lookup) (page : Found) → IsFoundAt life moment lookup (Ok page)
    → Finds (present life) moment lookup (Ok page)
page_found life moment lookup page (inl finds) = finds
page_found life moment lookup page (inr (inl e)) = let none : found_one page ≡ refused_so Memory = e in absurd (cc)
page_found life moment lookup page (inr (inr (inl e))) = let none : found_one page ≡ refused_so Store = e in absurd (cc)
page_found life moment lookup page (inr (inr (inr e))) = let none : found_one page ≡ refused_so Stopped = e in absurd (cc)

-- a list has no refusal of its own
none_refused : (o : Office) (moment : ℕ) (list : Lookup) (refusal : Refusal) → IsList list → ¬ Finds o moment list (Err refusal)
none_refused o moment (lookups.Tariffs after) refusal is none = none
none_refused o moment (lookups.Meters after) refusal is none = none
none_refused o moment (lookups.Shifts after) refusal is none = none
none_refused o moment (lookups.Sales after) refusal is none = none
none_refused o moment list refusal is none = absurd is

same_so : (a b : Refusal) → refused_so a ≡ refused_so b → a ≡ b
same_so a b e = cc

-- so a page is refused for want of memory, or as the books could not be read
pub page_refusal : (life : Life) (moment : ℕ) (list : Lookup) (refusal : Refusal) → IsList list → IsFoundAt life moment list (Err refusal)
    → IsPageRefusal refusal
page_refusal life moment list refusal is (inl finds) = absurd (none_refused (present life) moment list refusal is finds)
page_refusal life moment list refusal is (inr (inl e)) = inl (same_so refusal Memory e)
page_refusal life moment list refusal is (inr (inr (inl e))) = inr (inl (same_so refusal Store e))
page_refusal life moment list refusal is (inr (inr (inr e))) = inr (inr (same_so refusal Stopped e))

-- what was found of a list is a page that the tables show
pub page_shown : (health : Health) (moment : ℕ) (db : Database) (list : Lookup) (page : Found) → IsFoundSeen health moment list db (Ok page)
    → ShowsListPage moment db list page
page_shown health moment db (lookups.Tariffs after) page (inl shown) = shown
page_shown health moment db (lookups.Meters after) page (inl shown) = shown
page_shown health moment db (lookups.Shifts after) page (inl shown) = shown
page_shown health moment db (lookups.Sales after) page (inl shown) = shown
page_shown health moment db list page (inl shown) = tt
page_shown health moment db list page (inr (inl e)) = let none : found_one page ≡ refused_so Memory = e in absurd cc
page_shown health moment db list page (inr (inr e)) = let none : found_one page ≡ refused_so Store = e in absurd cc

none_shown_refused : (health : Health) (moment : ℕ) (db : Database) (list : Lookup) (refusal : Refusal) → IsList list → ¬ FindsSeen health moment list db (Err refusal)
none_shown_refused health moment db (lookups.Tariffs after) refusal is none = none
none_shown_refused health moment db (lookups.Meters after) refusal is none = none
none_shown_refused health moment db (lookups.Shifts after) refusal is none = none
none_shown_refused health moment db (lookups.Sales after) refusal is none = none
none_shown_refused health moment db list refusal is none = absurd is

-- and why a page is refused, whatever the rows are
pub seen_refusal : (health : Health) (moment : ℕ) (db : Database) (list : Lookup) (refusal : Refusal) → IsList list → IsFoundSeen health moment list db (Err refusal)
    → IsPageRefusal refusal
seen_refusal health moment db list refusal is (inl shown) = absurd (none_shown_refused health moment db list refusal is shown)
seen_refusal health moment db list refusal is (inr (inl e)) = inl (same_so refusal Memory e)
seen_refusal health moment db list refusal is (inr (inr e)) = inr (inl (same_so refusal Store e))

-- books that were stopped tell that
pub any_refusal : (old new : Seen) (refusal : Refusal) → TellsStopped old new refusal → (old.stopped ≡ false → IsPageRefusal refusal) → IsPageRefusal refusal
any_refusal old new refusal tells running = elim (cases_Bool old.stopped) [
  | inl was ↦ inr (inr (tells.stopped.1 was))
  | inr runs ↦ running runs
]

-- ---- a page more

more_pages : (o : Office) (moment : ℕ) (list : Option Lookup) (pages : List Found) (next : Lookup) (page : Found)
    → ArePages o moment list pages (Some next) → Finds o moment next (Ok page)
    → ArePages o moment list (pages ++ page ∷ []) (list_behind page)
more_pages o moment list [] next page is finds = subst (λ (l : Option Lookup). ArePages o moment l (page ∷ []) (list_behind page)) is (finds, refl)
more_pages o moment None (first ∷ pages) next page are finds = absurd are
more_pages o moment (Some list) (first ∷ pages) next page are finds = (are.0, more_pages o moment (list_behind first) pages next page are.1 finds)

same_list : (a b : Lookup) → Some a ≡ Some b → a ≡ b
same_list a b e = cc

-- the list behind pages and one more is the one behind that
behind_more : (list : Option Lookup) (pages : List Found) (page : Found) → list_after list (pages ++ page ∷ []) ≡ list_behind page
behind_more list [] page = refl
behind_more list (first ∷ pages) page = behind_more (list_behind first) pages page

-- which is a list
behind_some : {A : Type 0} (f : A → Lookup) → ((x : A) → IsList (f x)) → (last : Option A) (behind : Lookup) → option_map f last ≡ Some behind → IsList behind
behind_some f lists None behind is = absurd cc
behind_some f lists (Some last) behind is = subst IsList (same_list (f last) behind is) (lists last)

behind_lists : (page : Found) (behind : Lookup) → list_behind page ≡ Some behind → IsList behind
behind_lists (what.Tariffs page) behind is = behind_some _ (λ t. tt) (last_of_full page.items) behind is
behind_lists (what.Meters page) behind is = behind_some _ (λ m. tt) (last_of_full page.items) behind is
behind_lists (what.Shifts page) behind is = behind_some _ (λ l. tt) (last_of_full page.items) behind is
behind_lists (what.Sales page) behind is = behind_some _ (λ s. tt) (last_of_full page.items) behind is
behind_lists page behind is = absurd cc

-- pages that are shown, and one more
shown_more : (moment : ℕ) (db : Database) (list : Option Lookup) (pages : List Found) (next : Lookup) (page : Found) → list_after list pages ≡ Some next
    → ShowsListPages moment db list pages → ShowsListPage moment db next page → ShowsListPages moment db list (pages ++ page ∷ [])
shown_more moment db list [] next page is shown more = subst (λ (l : Option Lookup). ShowsListPages moment db l (page ∷ [])) (sym is) (more, tt)
shown_more moment db None (first ∷ pages) next page is shown more = absurd shown
shown_more moment db (Some list) (first ∷ pages) next page is shown more =
    (shown.0, shown_more moment db (list_behind first) pages next page is shown.1 more)

-- what follows a page that was taken, and one that no other follows
none_behind : (next behind : Option Lookup) (failed : Bool) → next ≡ None → next ≡ (if failed then None else behind) → failed ≡ false → behind ≡ None
none_behind next behind true none is sound = absurd (cc)
none_behind next behind false none is sound = sym is ∙ none

-- ---- all pages

-- the pages before one were printed, and no write failed
pub record ListedSoFar (moment : ℕ) (list : Lookup) (json : Bool) (old now : Seen) (before after : Sink) (next : Lookup) (page : ℕ)
    (pages : List Found) : Type 0 where
  pub put : Takes before after (pages_text json pages)
  pub are : HasCleanDisk now.state → (life : Life) → Represents life old → ArePages (present life) moment (Some list) pages (Some next)
  pub count : length pages ≡ page
  pub shown : HaveShown (λ db. ShowsListPages moment db (Some list) pages) old now
  pub behind : list_after (Some list) pages ≡ Some next
  pub lists : IsList list → IsList next
  pub reads : AreOnlyRead old now
  pub stopped : now.stopped ≡ old.stopped

-- before the first page nothing was printed, and the books were not read
pub no_pages : (moment : ℕ) (list : Lookup) (json : Bool) (books : Seen) (before : Sink) → ListedSoFar moment list json books books before before list 0 []
no_pages moment list json books before = record {
  put = takes_none before;
  are = λ clean life kept. refl;
  count = refl;
  shown = λ clean tables running. inl tt;
  behind = refl;
  lists = λ is. is;
  reads = read_none books;
  stopped = refl;
}

module _ (moment : ℕ) (list : Lookup) (json : Bool) (old mid new : Seen) (before part after : Sink) (next : Lookup) (page : ℕ) (pages : List Found)
    (so_far : ListedSoFar moment list json old mid before part next page pages)
    (reads : AreOnlyRead mid new) where
  are_more : (found : Found) → (HasCleanDisk new.state → (life : Life) → Represents life mid → Finds (present life) moment next (Ok found))
      → HasCleanDisk new.state → (life : Life) → Represents life old → ArePages (present life) moment (Some list) (pages ++ found ∷ []) (list_behind found)
  are_more found finds clean life kept =
      more_pages (present life) moment (Some list) pages next found (so_far.are (reads.clean clean) life kept) (finds clean life (so_far.reads.keeps life kept))

  put_more : (found : Found) → Takes part after (page_text json (page == 0) found) → Takes before after (pages_text json (pages ++ found ∷ []))
  put_more found put =
      let text = ap (λ n. pages_text json pages ++ page_text json (n == 0) found) (sym so_far.count) ∙ more_text json pages found in
      takes_as before after _ _ text (takes_next before part after (pages_text json pages) (page_text json (page == 0) found) so_far.put put)

  show_more : (found : Found) → (HasCleanDisk new.state → BooksHaveTables mid → mid.stopped ≡ false → ShowsListPage moment mid.state.now next found)
      → HaveShown (λ db. ShowsListPages moment db (Some list) (pages ++ found ∷ [])) old new
  show_more found shows =
      shown_so (λ db. ShowsListPages moment db (Some list) pages × ShowsListPage moment db next found)
      (λ db. ShowsListPages moment db (Some list) (pages ++ found ∷ [])) old new
      (λ db both. shown_more moment db (Some list) pages next found so_far.behind both.0 both.1)
      (shows_before (λ db. ShowsListPages moment db (Some list) pages) (λ db. ShowsListPage moment db next found) old mid new so_far.reads reads so_far.stopped so_far.shown shows)

  -- a page was printed and a list follows it: there is one page more
  pub page_more : (behind : Lookup) (put : IsListPage moment next json (page == 0) mid new part after (Ok (Some behind)))
      → ListedSoFar moment list json old new before after behind (page + 1) (pages ++ put.0 ∷ [])
  page_more behind put =
      let is = some_behind behind (list_behind put.0) after.failed put.4 in
      record {
        put = put_more put.0 put.3;
        are = λ clean life kept. subst (λ (left : Option Lookup). ArePages (present life) moment (Some list) (pages ++ put.0 ∷ []) left) is
            (are_more put.0 put.1 clean life kept);
        count = length-append pages (put.0 ∷ []) ∙ ap (λ n. n + 1) so_far.count;
        shown = show_more put.0 put.2;
        behind = behind_more (Some list) pages put.0 ∙ is;
        lists = λ _. behind_lists put.0 behind is;
        reads = read_then old mid new so_far.reads reads;
        stopped = put.5 ∙ so_far.stopped;
      }

  -- a page that no list follows was printed: the list ends as done
  pub page_last : (err : Sink) (behind : Option Lookup) → behind ≡ None
      → IsListPage moment next json (page == 0) mid new part after (Ok behind) → IsListed moment list json old new (outputs before after err err) how.Done
  page_last err behind none put = record {
    pages = pages ++ put.0 ∷ [];
    left = list_behind put.0;
    stop = None;
    told = (put_more put.0 put.3, takes_none err, refl);
    are = are_more put.0 put.1;
    behind = behind_more (Some list) pages put.0;
    seen = show_more put.0 put.2;
    whole = λ _ sound. inl (none_behind behind (list_behind put.0) after.failed none put.4 sound);
    refused = λ _ clean life kept. tt;
    causes = λ _ clean tables. tt;
    stops = put.5 ∙ so_far.stopped;
    reads = read_then old mid new so_far.reads reads;
  }

  -- a page was refused: the pages before it were printed, and then the refusal
  pub page_refused : (err told : Sink) (refusal : Refusal) → IsListPage moment next json (page == 0) mid new part after (Err refusal)
      → Takes err told (refusal_line refusal)
      → IsListed moment list json old new (outputs before after err told) how.Refused
  page_refused err told refusal put says = record {
    pages = pages;
    left = Some next;
    stop = Some refusal;
    told = (takes_last before part after (pages_text json pages) [] _ so_far.put (sym (append-nil (pages_text json pages))) put.0, says, refl);
    are = λ clean life kept. so_far.are (reads.clean clean) life kept;
    behind = so_far.behind;
    seen = shown_then (λ db. ShowsListPages moment db (Some list) pages) old mid new so_far.reads reads so_far.shown;
    whole = λ e sound. absurd (cc);
    refused = λ is clean life kept. put.1 (so_far.lists is) clean life (so_far.reads.keeps life kept);
    causes = λ is clean tables. put.2 (so_far.lists is) clean (so_far.reads.tables tables);
    stops = (
      stopped_before old mid new refusal so_far.stopped put.3,
      (
        next,
        so_far.behind,
        fails_before (LookupSpoilt moment next) old mid new refusal so_far.reads reads so_far.stopped put.4,
      ),
    );
    reads = read_then old mid new so_far.reads reads;
  }

-- more pages than any file has
pub most_printed : (moment : ℕ) (list : Lookup) (json : Bool) (old new : Seen) (before after err : Sink) (next : Lookup) (page : ℕ)
    (pages : List Found) → ListedSoFar moment list json old new before after next page pages → page ≡ most_pages
    → IsListed moment list json old new (outputs before after err err) how.Done
most_printed moment list json old new before after err next page pages so_far most = record {
  pages = pages;
  left = Some next;
  stop = None;
  told = (so_far.put, takes_none err, refl);
  are = so_far.are;
  behind = so_far.behind;
  seen = so_far.shown;
  whole = λ _ sound. inr (so_far.count ∙ most);
  refused = λ _ clean life kept. tt;
  causes = λ _ clean tables. tt;
  stops = so_far.stopped;
  reads = so_far.reads;
}
