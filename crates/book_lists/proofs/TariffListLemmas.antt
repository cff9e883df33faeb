-- What the statement that lists tariffs finds.
use Rattle.std.proofs.Common.{ℕ, false, List, [], ◌∷◌, IsSome, codes, map, refl, subst}
use Rattle.std.specs.Prelude.{Contains}
use Rattle.std.proofs.lemmas.List.{map-id}
use Rattle.std.proofs.lemmas.List.Elements.{All-contains, All-weaker}
use Rattle.sqlite.specs.declared.types.Value.TheVariants.{Text}
use Rattle.sqlite_sql.specs.declared.ops.CompareOp.TheVariants.{Gt}
use Rattle.sqlite_sql.specs.Term.{col}
use Rattle.sqlite_typed.proofs.TestLemmas.{at_texts, last_term}
use Rattle.office_rules.specs.Name.{IsName}
use Rattle.office_rules.specs.Office.{Office}
use Rattle.book_tables.specs.Kept.{tariffs_kept}
use Rattle.book_tables.specs.row.Rows.{Rows, number, tariff_columns}
use Rattle.book_tables.specs.Stands.{AreMembersOf}
use Rattle.book_tables.specs.Tables.{tariffs_table}
use Rattle.book_tables.proofs.ReadingLemmas.ListingLemmas.{Lists}
use Rattle.book_tables.proofs.ReadingLemmas.TariffLemmas.{tariff_names_keep}
use Rattle.book_tables.proofs.RowLemmas.RecordLemmas.{one_tariff}
use Rattle.book_lists.specs.Pages.{AreFirstAfter, ComesBefore, page_size}
use Rattle.book_lists.proofs.ListTexts.{tariffs_after_asks, tariffs_after_query, tariffs_after_text}
use Rattle.book_lists.proofs.PageLemmas.{page_of}
use Rattle.book_lists.proofs.TextLemmas.{page_by_text}

abbrev itself : List ℕ → List ℕ
itself name = name

module _ (after : List ℕ) where
  -- the first names of the rows after a text
  abbrev pub AreNamesAfter : Rows → List (List ℕ) → Type 0
  AreNamesAfter rows found = AreFirstAfter (λ name. Contains rows.tariffs name) after found

  -- what a page of tariffs has
  pub tariffs_after : Lists tariffs_kept tariffs_after_text (Text after ∷ number page_size ∷ []) tariff_columns IsName AreNamesAfter
  tariffs_after = record {
    table = tariffs_table;
    query = tariffs_after_query;
    names = codes "name" ∷ [];
    asks = tariffs_after_asks after page_size;
    stands = λ s has. has.0.has;
    one = λ a b keeps_a keeps_b same. one_tariff a b same;
    kept = λ rows of_office found first.
        All-weaker (λ name. Contains rows.tariffs name × ComesBefore after name) IsName
        (λ name has. All-contains IsName rows.tariffs name (tariff_names_keep rows of_office) has.0) found first.there;
    answers = λ db rows held of_office answer is.
        let page = page_by_text itself after {xs = rows.tariffs} {show = tariff_columns}
        (record { holds_them = held.1.1.0; some = λ r none. cc; passes = λ hidden r. last_term (at_texts false Gt r after); shows = λ hidden r. refl })
        1 (λ hidden r. refl) of_office.2.tariffs_once (col 0 1) refl answer is in
        let first = subst (λ (names : List (List ℕ)). AreFirstAfter (λ k. Contains names k) after (map itself page.found)) (map-id rows.tariffs) page.first in
        (page.found, subst (AreFirstAfter (λ name. Contains rows.tariffs name) after) (map-id page.found) first, page.row);
  }

-- the names of the rows are those of the office's tariffs
pub office_names : (after : List ℕ) (rows : Rows) (o : Office) → AreMembersOf rows o → (found : List (List ℕ))
    → AreNamesAfter after rows found → AreFirstAfter (λ name. IsSome (o.tariffs name)) after found
office_names after rows o are found =
    page_of (λ name. Contains rows.tariffs name) (λ name. IsSome (o.tariffs name)) (λ name. ((are.tariffs name).1, (are.tariffs name).0)) after found
