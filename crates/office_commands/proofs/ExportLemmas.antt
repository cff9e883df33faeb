-- Pages of an export.
use Rattle.std.proofs.Common.{◌≡◌, ◌≢◌, ◌∙◌, ℕ, zero, suc, ◌+◌, ◌-◌, ◌*◌, ◌≤◌, ◌==◌, Bool, true, false, List, [], ◌∷◌, ◌++◌, length, slice_get, take, drop, Option, Some, None, option_map, Ok, Err, refl, ap, subst, sym, append_assoc, append-nil, length-take, length-drop, drop-drop, eq-eqb, arith, inl, inr}
use Rattle.std.specs.Prelude.{if◌then◌else◌}
use Rattle.std.specs.List.{flat_map}
use Rattle.std.proofs.lemmas.Bool.{eqb-true, ne_eqb}
use Rattle.std.proofs.lemmas.Grind.{flat_map-append}
use Rattle.std.proofs.lemmas.List.{drop_all, length-append, take-append-drop}
use Rattle.sqlite.proofs.MarkLemmas.{slice_get-take}
use Rattle.sqlite.specs.Effect.{Database}
use Rattle.sqlite.specs.State.{HasCleanDisk}
use Rattle.books.specs.Keeps.{BooksHaveTables, Represents, Seen}
use Rattle.papers.specs.Export.{export_of}
use Rattle.sts_fields.specs.Text.{Text}
use Rattle.vend_core.specs.Law.Life.{Life, present}
use Rattle.office_rules.specs.Office.{AreNumbered, IsOffice}
use Rattle.office_rules.specs.declared.decision.refusal.Refusal.{Refusal}
use Rattle.office_rules.specs.declared.decision.refusal.Refusal.TheVariants.{Memory}
use Rattle.office_rules.specs.declared.office.sale.Sale.{Sale}
use Rattle.office_commands.proofs.OnlyReadLemmas.{fails_before, read_none, read_then, shown_so, shown_then, shows_before}
use Rattle.office_commands.proofs.RefusedLemmas.{fails_only, stopped_before}
use Rattle.vend_ports.proofs.TakeLemmas.{takes_as, takes_last, takes_next, takes_none}
use Rattle.office_commands.specs.office.OnlyRead.{AreOnlyRead, HaveShown}
use Rattle.office_commands.specs.print.Exported.{IsExported, IsPage, IsPageSpoilt, ShowsPage, ShowsPages, most_full, number_behind, number_left, page_behind, text_of_pages}
use Rattle.vend_ports.specs.print.Printed.{refusal_line}
use Rattle.vend_ports.specs.print.Sink.{Sink}
use Rattle.vend_ports.specs.print.Told.{Takes, outputs}
use Rattle.vend_ports.specs.declared.command_end.CommandEnd.TheVariants as how

-- sales behind others are exported behind them, without the names of the columns
abbrev pub PagesLaw : Type 0
PagesLaw = (header : Bool) (front back : List Sale) → export_of header (front ++ back) ≡ export_of header front ++ export_of false back

-- ---- the pages of an office

-- the export from a page on
abbrev pub export_from : List Sale → ℕ → List ℕ
export_from sales page = export_of (page == 0) (drop (page * 1000) sales)

-- a page, and what follows it
pub page_split : PagesLaw → (sales : List Sale) (page : ℕ)
    → export_from sales page ≡ export_of (page == 0) (page_behind sales (page * 1000)) ++ export_from sales (page + 1)
page_split law sales page =
    let rest = drop (page * 1000) sales in
    let whole : take 1000 rest ++ drop 1000 rest ≡ rest = take-append-drop 1000 rest in
    let further : drop 1000 rest ≡ drop ((page + 1) * 1000) sales =
    drop-drop 1000 (page * 1000) sales ∙ ap (λ n. drop n sales) {x = page * 1000 + 1000} {y = (page + 1) * 1000} (omega arith) in
    let later : (page + 1 == 0) ≡ false = ne_eqb (page + 1) 0 (λ e. omega (arith, e)) in
    let text = export_of (page == 0) (take 1000 rest) in
    ap (export_of (page == 0)) (sym whole) ∙ law (page == 0) (take 1000 rest) (drop 1000 rest)
    ∙ ap (λ l. text ++ export_of false l) further
    ∙ ap (λ b. text ++ export_of b (drop ((page + 1) * 1000) sales)) (sym later)

-- an export of no sales without the names of the columns is empty
pub export_none : (header : Bool) → header ≡ false → export_of header [] ≡ []
unfolding export_of
export_none true later = cc
export_none false later = refl

-- nothing is left behind the last sale
pub export_end : (sales : List Sale) (page : ℕ) → 1 ≤ page → length sales ≤ page * 1000 → export_from sales page ≡ []
export_end sales page later past =
    ap (export_of (page == 0)) (drop_all (page * 1000) sales past) ∙ export_none (page == 0) (ne_eqb page 0 (λ e. omega (arith, later, e)))

-- so behind a page that is not full
pub past_short : (sales : List Sale) (page : ℕ) → length (page_behind sales (page * 1000)) ≢ 1000 → length sales ≤ (page + 1) * 1000
past_short sales page short = omega (arith, short, length-take 1000 (drop (page * 1000) sales), length-drop (page * 1000) sales)

-- ---- the number that a page ends with

in_drop : (k : ℕ) (sales : List Sale) (i n : ℕ) (s : Sale) → n ≡ k + i → slice_get (drop k sales) i ≡ Some s → slice_get sales n ≡ Some s
in_drop zero sales i n s is at = let here : i ≡ n = omega (arith, is) in subst (λ m. slice_get sales m ≡ Some s) here at
in_drop (suc k) [] i n s is at = cc
in_drop (suc k) (t ∷ sales) i zero s is at = absurd (omega (arith, is))
in_drop (suc k) (t ∷ sales) i (suc n) s is at = in_drop k sales i n s (omega (arith, is)) at

-- the number is that of a sale, where the page is full
record EndsWith (page : List Sale) (number : ℕ) : Type 0 where
  pub sale : Sale
  pub full : length page ≡ 1000
  pub last : slice_get page 999 ≡ Some sale
  pub numbered : sale.number ≡ number

ends_with : (page : List Sale) (number : ℕ) → number_behind page ≡ Some number → EndsWith page number
ends_with page number is = by_length (length page == 1000) refl is
  where
    by_last : (last : Option Sale) → length page ≡ 1000 → slice_get page (length page - 1) ≡ last → option_map (λ (s : Sale). s.number) last ≡ Some number
        → EndsWith page number
    by_last None full at none = absurd cc
    by_last (Some s) full at is = record {
      sale = s;
      full = full;
      last = ap (λ len. slice_get page (len - 1)) {x = 1000} {y = length page} (sym full) ∙ at;
      numbered = cc;
    }

    by_length : (full : Bool) → (length page == 1000) ≡ full
        → option_map (λ (s : Sale). s.number) (if full then slice_get page (length page - 1) else None) ≡ Some number → EndsWith page number
    by_length true full is = by_last (slice_get page (length page - 1)) (eqb-true (length page) 1000 full) refl is
    by_length false short none = absurd cc

-- a list that has nothing at a place ends before it
none_past : (sales : List Sale) (i : ℕ) → slice_get sales i ≡ None → length sales ≤ i
none_past [] i none = omega arith
none_past (s ∷ sales) zero none = cc
none_past (s ∷ sales) (suc i) none = omega (arith, none_past sales i none)

-- a page that is full ends with some number
ends_full : (page : List Sale) → length page ≡ 1000 → number_behind page ≢ None
ends_full page full none = by_last (slice_get page (length page - 1)) refl (sym as_full ∙ none)
  where
    as_full : number_behind page ≡ option_map (λ (s : Sale). s.number) (slice_get page (length page - 1))
    as_full = let is : (length page == 1000) ≡ true = eq-eqb (length page) 1000 full in
        ap (λ b. option_map (λ (s : Sale). s.number) (if b then slice_get page (length page - 1) else None)) is

    by_last : (last : Option Sale) → slice_get page (length page - 1) ≡ last → option_map (λ (s : Sale). s.number) last ≢ None
    by_last (Some s) at none = cc
    by_last None at none = omega (arith, full, none_past page (length page - 1) at)

-- in an office that is a thousand more than the one that it begins behind
thousand_more : (sales : List Sale) (number last : ℕ) → AreNumbered (λ (s : Sale). s.number) sales → number_behind (page_behind sales number) ≡ Some last
    → last ≡ number + 1000
thousand_more sales number last numbered is =
    let ends = ends_with (page_behind sales number) last is in
    let there = sym (slice_get-take 1000 (drop number sales) 999 (omega arith)) ∙ ends.last in
    let place = in_drop number sales 999 (number + 999) ends.sale refl there in
    omega (arith, numbered (number + 999) ends.sale place, ends.numbered)

-- ---- what follows a page

-- a page that was taken, and another follows it
followed : (last : ℕ) (behind : Option ℕ) (failed : Bool) → Some last ≡ (if failed then None else behind) → behind ≡ Some last
followed last behind true is = absurd cc
followed last behind false is = sym is

-- a page that no other follows, where no write failed
unfollowed : (next behind : Option ℕ) (failed : Bool) → next ≡ None → next ≡ (if failed then None else behind) → failed ≡ false → behind ≡ None
unfollowed next behind true none is sound = absurd cc
unfollowed next behind false none is sound = sym is ∙ none

-- ---- pages, and one more

-- the number behind them is that of the last one
left_more : (number : Option ℕ) (pages : List (List Sale)) (page : List Sale) → number_left number (pages ++ page ∷ []) ≡ number_behind page
left_more number [] page = refl
left_more number (first ∷ pages) page = left_more (number_behind first) pages page

-- they are shown one behind another
shown_more : (db : Database) (number : Option ℕ) (pages : List (List Sale)) (next : ℕ) (page : List Sale) → number_left number pages ≡ Some next
    → ShowsPages db number pages → ShowsPage db next page → ShowsPages db number (pages ++ page ∷ [])
shown_more db number [] next page is shown more = subst (λ (n : Option ℕ). ShowsPages db n (page ∷ [])) (sym is) (more, tt)
shown_more db None (first ∷ pages) next page is shown more = absurd shown
shown_more db (Some number) (first ∷ pages) next page is shown more =
    (shown.0, shown_more db (number_behind first) pages next page is shown.1 more)

-- and their texts are that of all together
text_more : PagesLaw → (pages : List (List Sale)) (page : List Sale)
    → text_of_pages pages ++ export_of (length pages == 0) page ≡ text_of_pages (pages ++ page ∷ [])
text_more law [] page = ap (export_of true) (sym (append-nil page))
text_more law (first ∷ pages) page =
    let later : (length (first ∷ pages) == 0) ≡ false = ne_eqb (length (first ∷ pages)) 0 (λ e. omega (arith, e)) in
    let front = flat_map (λ (sales : List Sale). sales) (first ∷ pages) in
    let joined : front ++ page ≡ flat_map (λ (sales : List Sale). sales) ((first ∷ pages) ++ page ∷ []) =
    ap (λ back. front ++ back) (sym (append-nil page)) ∙ sym (flat_map-append (λ (sales : List Sale). sales) (first ∷ pages) (page ∷ [])) in
    ap (λ b. export_of true front ++ export_of b page) later ∙ sym (law true front page) ∙ ap (export_of true) joined

-- ---- the pages before one

-- the text is the export of all these sales up to a page, which begins behind the number
pub record IsUpTo (sales : List Sale) (number page : ℕ) (text : Text) : Type 0 where
  pub place : number ≡ page * 1000
  pub left : text ++ export_from sales page ≡ export_of true sales

-- the pages before one were printed, and no write failed
pub record SoFar (old now : Seen) (before after : Sink) (number page : ℕ) (pages : List (List Sale)) : Type 0 where
  pub put : Takes before after (text_of_pages pages)
  pub upto : HasCleanDisk now.state → (life : Life) → Represents life old → IsUpTo (present life).sales number page (text_of_pages pages)
  pub shown : HaveShown (λ db. ShowsPages db (Some 0) pages) old now
  pub behind : number_left (Some 0) pages ≡ Some number
  pub count : length pages ≡ page
  pub reads : AreOnlyRead old now
  pub stopped : now.stopped ≡ old.stopped

-- before the first page nothing was printed, and the books were not read
pub no_pages : (books : Seen) (before : Sink) → SoFar books books before before 0 0 []
no_pages books before = record {
  put = takes_none before;
  upto = λ clean life kept. record { place = refl; left = refl };
  shown = λ clean tables running. inl tt;
  behind = refl;
  count = refl;
  reads = read_none books;
  stopped = refl;
}

-- each life that the books kept has an office
abbrev pub AreOffices : Seen → Type 0
AreOffices books = HasCleanDisk books.state → (life : Life) → Represents life books → IsOffice (present life)

module _ (old mid new : Seen) (before part after : Sink) (number page : ℕ) (pages : List (List Sale)) (law : PagesLaw) (offices : AreOffices old)
    (so_far : SoFar old mid before part number page pages) (reads : AreOnlyRead mid new) where
  -- a page is what the office has behind the pages before it
  page_there : (sales : List Sale) (life : Life) → HasCleanDisk new.state → Represents life old
      → (HasCleanDisk new.state → (life : Life) → Represents life mid → sales ≡ page_behind (present life).sales number)
      → sales ≡ page_behind (present life).sales (page * 1000)
  page_there sales life clean kept given =
      given clean life (so_far.reads.keeps life kept) ∙ ap (page_behind (present life).sales) (so_far.upto (reads.clean clean) life kept).place

  put_more : (sales : List Sale) → Takes part after (export_of (page == 0) sales) → Takes before after (text_of_pages (pages ++ sales ∷ []))
  put_more sales put =
      let text = ap (λ n. text_of_pages pages ++ export_of (n == 0) sales) (sym so_far.count) ∙ text_more law pages sales in
      takes_as before after _ _ text (takes_next before part after (text_of_pages pages) (export_of (page == 0) sales) so_far.put put)

  -- what is left behind the page of these sales
  left_behind : (sales : List Sale) (life : Life) → HasCleanDisk new.state → Represents life old → sales ≡ page_behind (present life).sales (page * 1000)
      → text_of_pages (pages ++ sales ∷ []) ++ export_from (present life).sales (page + 1) ≡ export_of true (present life).sales
  left_behind sales life clean kept is =
      let all = (present life).sales in
      let text = ap (λ n. text_of_pages pages ++ export_of (n == 0) sales) (sym so_far.count) ∙ text_more law pages sales in
      ap (λ front. front ++ export_from all (page + 1)) (sym text)
      ∙ append_assoc (text_of_pages pages) (export_of (page == 0) sales) (export_from all (page + 1))
      ∙ ap (λ s. text_of_pages pages ++ (export_of (page == 0) s ++ export_from all (page + 1))) is
      ∙ ap (λ l. text_of_pages pages ++ l) (sym (page_split law all page))
      ∙ (so_far.upto (reads.clean clean) life kept).left

  show_more : (sales : List Sale) → (HasCleanDisk new.state → BooksHaveTables mid → mid.stopped ≡ false → ShowsPage mid.state.now number sales)
      → HaveShown (λ db. ShowsPages db (Some 0) (pages ++ sales ∷ [])) old new
  show_more sales shows =
      shown_so (λ db. ShowsPages db (Some 0) pages × ShowsPage db number sales) (λ db. ShowsPages db (Some 0) (pages ++ sales ∷ [])) old new
      (λ db both. shown_more db (Some 0) pages number sales so_far.behind both.0 both.1)
      (shows_before (λ db. ShowsPages db (Some 0) pages) (λ db. ShowsPage db number sales) old mid new so_far.reads reads so_far.stopped so_far.shown shows)

  -- a page was printed and another follows it: the export is printed up to that one
  pub page_more : (last : ℕ) (page_put : IsPage number (page == 0) mid new part after (Ok (Some last)))
      → SoFar old new before after last (page + 1) (pages ++ page_put.0 ∷ [])
  page_more last put =
      let ends = followed last (number_behind put.0) after.failed put.4 in
      record {
        put = put_more put.0 put.3;
        upto = λ clean life kept.
            let there = page_there put.0 life clean kept put.1 in
            let numbered = (offices (so_far.reads.clean (reads.clean clean)) life kept).sale_numbers in
            let more = thousand_more (present life).sales (page * 1000) last numbered (ap number_behind (sym there) ∙ ends) in
            record { place = omega (arith, more); left = left_behind put.0 life clean kept there };
        shown = show_more put.0 put.2;
        behind = left_more (Some 0) pages put.0 ∙ ends;
        count = length-append pages (put.0 ∷ []) ∙ ap (λ n. n + 1) so_far.count;
        reads = read_then old mid new so_far.reads reads;
        stopped = put.5 ∙ so_far.stopped;
      }

  -- the last page was printed: the export is done, and whole where no write failed
  pub page_last : (err : Sink) (next : Option ℕ) → next ≡ None → IsPage number (page == 0) mid new part after (Ok next)
      → IsExported old new (outputs before after err err) how.Done
  page_last err next none put =
      let text = text_of_pages (pages ++ put.0 ∷ []) in
      let ended : after.failed ≡ false → number_behind put.0 ≡ None = unfollowed next (number_behind put.0) after.failed none put.4 in
      let whole : after.failed ≡ false → HasCleanDisk new.state → (life : Life) → Represents life old → text
      ≡ export_of true (present life).sales = λ sound clean life kept.
      let all = (present life).sales in
      let there = page_there put.0 life clean kept put.1 in
      let past = past_short all page (λ full. ends_full put.0 (ap length there ∙ full) (ended sound)) in
      sym (append-nil text) ∙ ap (λ l. text ++ l) (sym (export_end all (page + 1) (omega arith) past)) ∙ left_behind put.0 life clean kept there in
      record {
        pages = pages ++ put.0 ∷ [];
        text = text;
        of_pages = refl;
        stop = None;
        told = (put_more put.0 put.3, takes_none err, refl);
        stops = put.5 ∙ so_far.stopped;
        sales = λ clean life kept. record {
          begins = (_, left_behind put.0 life clean kept (page_there put.0 life clean kept put.1));
          whole = λ _ sound. whole sound clean life kept;
        };
        seen = show_more put.0 put.2;
        whole = λ _ sound. inl (left_more (Some 0) pages put.0 ∙ ended sound);
        reads = read_then old mid new so_far.reads reads;
      }

  -- a page was refused: the pages before it were printed, and then the refusal
  pub page_refused : (err told : Sink) (refusal : Refusal) → IsPage number (page == 0) mid new part after (Err refusal)
      → Takes err told (refusal_line refusal) → IsExported old new (outputs before after err told) how.Refused
  page_refused err told refusal same says =
      let text = text_of_pages pages in
      record {
        pages = pages;
        text = text;
        of_pages = refl;
        stop = Some refusal;
        told = (takes_last before part after text [] text so_far.put (sym (append-nil text)) same.0, says, refl);
        stops = (
          same.1,
          stopped_before old mid new refusal so_far.stopped same.2.tells,
          (
            number,
            so_far.behind,
            fails_before (IsPageSpoilt number) old mid new refusal so_far.reads reads so_far.stopped
                (fails_only (λ cause. cause ≡ Memory) mid new refusal (λ is. absurd cc) same.2.failures),
          ),
        );
        sales = λ clean life kept. record { begins = (_, (so_far.upto (reads.clean clean) life kept).left); whole = λ e sound. cc };
        seen = shown_then (λ db. ShowsPages db (Some 0) pages) old mid new so_far.reads reads so_far.shown;
        whole = λ e sound. absurd cc;
        reads = read_then old mid new so_far.reads reads;
      }

-- all pages that an office may have were printed
pub all_pages : (old new : Seen) (before after err : Sink) (number page : ℕ) (pages : List (List Sale)) → page ≡ most_full
    → SoFar old new before after number page pages
    → (HasCleanDisk new.state → (life : Life) → Represents life new → length (present life).sales ≤ page * 1000)
    → IsExported old new (outputs before after err err) how.Done
all_pages old new before after err number page pages most so_far few =
    let text = text_of_pages pages in
    let later : 1 ≤ page = omega (arith, most) in
    let whole : HasCleanDisk new.state → (life : Life) → Represents life old → text ≡ export_of true (present life).sales = λ clean life kept.
    let all = (present life).sales in
    let past = few clean life (so_far.reads.keeps life kept) in
    sym (append-nil text) ∙ ap (λ l. text ++ l) (sym (export_end all page later past)) ∙ (so_far.upto clean life kept).left in
    record {
      pages = pages;
      text = text;
      of_pages = refl;
      stop = None;
      told = (so_far.put, takes_none err, refl);
      stops = so_far.stopped;
      sales = λ clean life kept. record { begins = ([], append-nil text ∙ whole clean life kept); whole = λ _ sound. whole clean life kept };
      seen = so_far.shown;
      whole = λ _ sound. inr (so_far.count ∙ most);
      reads = so_far.reads;
    }
