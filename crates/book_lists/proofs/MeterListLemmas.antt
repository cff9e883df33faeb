-- What the statement that lists meters finds.
use Rattle.std.proofs.Common.{◌≡◌, ◌↔◌, ◌∙◌, ℕ, false, List, [], ◌∷◌, Option, None, Some, IsSome, map, refl, sym, subst}
use Rattle.std.specs.Prelude.{All, Contains}
use Rattle.std.proofs.lemmas.Bool.{false≢true}
use Rattle.sqlite_keyed.proofs.ListLemmas.{map-map}
use Rattle.std.proofs.lemmas.List.Elements.{All-map, All-weaker}
use Rattle.sqlite.specs.declared.types.Value.TheVariants.{Text}
use Rattle.sqlite_sql.specs.declared.ops.CompareOp.TheVariants.{Gt}
use Rattle.sqlite_sql.specs.Term.{col}
use Rattle.sqlite_typed.proofs.TestLemmas.{at_texts, last_term}
use Rattle.office_rules.specs.Office.{Office}
use Rattle.office_rules.specs.declared.office.meter.Meter.{Meter}
use Rattle.book_tables.specs.Kept.{meters_kept}
use Rattle.book_tables.specs.reading.Reading.{AreOfOffice, meter_row}
use Rattle.book_tables.specs.row.Rows.{Rows, number}
use Rattle.book_tables.specs.Stands.{AreMembersOf}
use Rattle.book_tables.specs.Tables.{meters_table}
use Rattle.book_tables.specs.declared.reading.pages.MeterRow.{MeterRow}
use Rattle.book_tables.proofs.ListLemmas.{contains_map, map_source}
use Rattle.book_tables.proofs.ReadingLemmas.ListingLemmas.{Lists}
use Rattle.book_tables.proofs.ReadingLemmas.MeterLemmas.{keeps_row, one_shown_row, shown_row}
use Rattle.book_tables.proofs.RowLemmas.ValueLemmas.{meters_keep}
use Rattle.book_tables.proofs.WritingLemmas.BaseTexts.{all_meters_names}
use Rattle.book_lists.specs.Pages.{AreFirstAfter, page_size}
use Rattle.book_lists.proofs.ListTexts.{meters_after_asks, meters_after_query, meters_after_text}
use Rattle.book_lists.proofs.PageLemmas.{page_of}
use Rattle.book_lists.proofs.TextLemmas.{page_by_text}

abbrev number_in : List ℕ × Meter → List ℕ
number_in m = m.0

abbrev number_of : MeterRow → List ℕ
number_of m = m.number

-- the row of the meter is there
abbrev StandsIn : Rows → MeterRow → Type 0
StandsIn rows m = Contains rows.meters (m.number, m.meter)

row_keeps : (rows : Rows) → AreOfOffice rows → (m : MeterRow) → StandsIn rows m → keeps_row m
row_keeps rows (o, office, are) m there =
    let has = (are.meters m.number m.meter).1 there in
    ((office.meters m.number m.meter has).numbered, meters_keep o office m.number m.meter has)

module _ (after : List ℕ) where
  -- the first meters of the rows after a text, by their numbers
  abbrev pub AreMetersAfter : Rows → List MeterRow → Type 0
  AreMetersAfter rows found =
      All (StandsIn rows) found × AreFirstAfter (λ k. Contains (map number_in rows.meters) k) after (map number_of found)

  -- what a page of meters has
  pub meters_after : Lists meters_kept meters_after_text (Text after ∷ number page_size ∷ []) shown_row keeps_row AreMetersAfter
  meters_after = record {
    table = meters_table;
    query = meters_after_query;
    names = all_meters_names;
    asks = meters_after_asks after page_size;
    stands = λ s has. has.0.has;
    one = one_shown_row;
    kept = λ rows of_office found are. All-weaker (StandsIn rows) keeps_row (row_keeps rows of_office) found are.0;
    answers = λ db rows held of_office answer is.
        let page = page_by_text number_in after {xs = rows.meters} {show = λ m. shown_row (meter_row m)}
        (record { holds_them = held.1.1.0; some = λ r none. cc; passes = λ hidden r. last_term (at_texts false Gt r.0 after); shows = λ hidden r. refl })
        1 (λ hidden r. refl) of_office.2.meters_once (col 0 1) refl answer is in
        let numbers : map number_in page.found ≡ map number_of (map meter_row page.found) = sym (map-map number_of meter_row page.found) in (
          map meter_row page.found,
          (
            All-map (StandsIn rows) meter_row page.found page.there,
            subst (AreFirstAfter (λ k. Contains (map number_in rows.meters) k) after) numbers page.first,
          ),
          page.row ∙ sym (map-map shown_row meter_row page.found),
        );
  }

  module _ (rows : Rows) (o : Office) (are : AreMembersOf rows o) where
    numbered_meter : (k : List ℕ) (m : Option Meter) → o.meters k ≡ m → IsSome m → Contains (map number_in rows.meters) k
    numbered_meter k None e some = absurd (false≢true some)
    numbered_meter k (Some m) e some = contains_map number_in rows.meters (k, m) ((are.meters k m).0 e)

    numbers_same : (k : List ℕ) → Contains (map number_in rows.meters) k ↔ IsSome (o.meters k)
    numbers_same k = (
      λ there.
          let source = map_source number_in rows.meters k there in
          let has = (are.meters source.0.0 source.0.1).1 source.1 in
          subst (λ (n : List ℕ). IsSome (o.meters n)) source.2 (subst (λ (m : Option Meter). IsSome m) (sym has) refl),
      λ has. numbered_meter k (o.meters k) refl has,
    )

    -- the meters of the rows are the office's
    pub office_meters : (found : List MeterRow) → AreMetersAfter rows found
        → All (λ (m : MeterRow). o.meters m.number ≡ Some m.meter) found × AreFirstAfter (λ k. IsSome (o.meters k)) after (map number_of found)
    office_meters found (there, first) = (
      All-weaker (StandsIn rows) (λ (m : MeterRow). o.meters m.number ≡ Some m.meter) (λ m here. (are.meters m.number m.meter).1 here) found there,
      page_of (λ k. Contains (map number_in rows.meters) k) (λ k. IsSome (o.meters k)) numbers_same after (map number_of found) first,
    )
