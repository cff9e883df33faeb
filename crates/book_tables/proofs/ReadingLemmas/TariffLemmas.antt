-- What the look-up of a tariff's name finds.
use Rattle.std.proofs.Common.{get_or, true, false, cond, inl, inr, ◌≡◌, ◌≢◌, ◌↔◌, ℕ, List, [], ◌∷◌, length, map, Some, IsTrue, is_some, refl, sym, ap, subst, ◌∙◌, ◌≤◌}
use Rattle.std.specs.Prelude.{All, Bool, Contains, bytes_eq, codes, filter, find}
use Rattle.std.specs.Option.{option_to_list}
use Rattle.std.proofs.lemmas.List.Elements.{Contains-get_or}
use Rattle.std.proofs.lemmas.Bool.{false≢true}
use Rattle.std.proofs.lemmas.Slice.Eq.{bytes_eq-Decides}
use Rattle.sqlite.specs.declared.types.Value.TheVariants.{Text}
use Rattle.sqlite_typed.proofs.TestLemmas.{last_term}
use Rattle.one_table.proofs.HiddenLemmas.{one_hidden}
use Rattle.one_table.proofs.TestsLemmas.{text_is}
use Rattle.book_tables.specs.reading.Reading.{AreOfOffice}
use Rattle.book_tables.proofs.ReadingLemmas.FindLemmas.{Finds}
use Rattle.book_tables.proofs.ReadingLemmas.ReadLemmas.{few, found_keeps}
use Rattle.book_tables.proofs.ListLemmas.{NotBothPass, contains_cases, contains_first, contains_further, contains_none, first_is_all, pairs_weaker}
use Rattle.office_rules.specs.Name.{IsName}
use Rattle.book_tables.specs.Kept.{tariffs_kept}
use Rattle.book_tables.specs.row.Rows.{Rows, tariff_columns}
use Rattle.book_tables.specs.Tables.{tariffs_table}
use Rattle.book_tables.proofs.RowLemmas.RecordLemmas.{one_tariff}
use Rattle.book_tables.proofs.ReadingLemmas.OneRowTexts.{tariff_named_asks, tariff_named_query, tariff_named_text}
use Rattle.book_tables.proofs.RowLemmas.ValueLemmas.{tariff_name}

-- the tariffs in the rows of an office keep the rules of names
pub tariff_names_keep : (rows : Rows) → AreOfOffice rows → All IsName rows.tariffs
tariff_names_keep rows (o, office, are) i d within =
    let name = get_or rows.tariffs i d in
    tariff_name o office name (o.tariffs name) refl ((are.tariffs name).1 (Contains-get_or rows.tariffs i d within))

module _ (name : List ℕ) where
  abbrev has_name : List ℕ → Bool
  has_name r = bytes_eq r name

  only_one : (rows : Rows) → AreOfOffice rows → filter has_name rows.tariffs ≡ option_to_list (find has_name rows.tariffs)
  only_one rows (o, office, are) =
      first_is_all has_name rows.tariffs
      (pairs_weaker (λ a b. a ≢ b) (NotBothPass has_name) rows.tariffs
      (λ a b apart p q. apart ((bytes_eq-Decides a name).0 p ∙ sym ((bytes_eq-Decides b name).0 q))) are.tariffs_once)

  by_test : (r : List ℕ) (rs : List (List ℕ)) (b : Bool) → has_name r ≡ b → (IsTrue (is_some (find has_name rs)) ↔ Contains rs name)
      → IsTrue (is_some (cond b (Some r) (find has_name rs))) ↔ Contains (r ∷ rs) name
  by_test r rs true is more = (λ _. subst (λ x. Contains (x ∷ rs) name) (sym ((bytes_eq-Decides r name).0 is)) (contains_first name rs), λ _. refl)
  by_test r rs false is more = (
    λ there. contains_further r name rs (more.0 there),
    λ there. elim (contains_cases r name rs there) [
      | inl same ↦ absurd (false≢true (sym is ∙ (bytes_eq-Decides r name).1 same))
      | inr further ↦ more.1 further
    ],
  )

  -- the name is found among names exactly where it is one of them
  pub there_is : (names : List (List ℕ)) → IsTrue (is_some (find has_name names)) ↔ Contains names name
  there_is [] = (λ there. absurd (false≢true there), λ there. absurd (contains_none name there))
  there_is (r ∷ rs) = by_test r rs (has_name r) refl (there_is rs)

  -- the text finds the name of the tariff, where there is such a tariff
  pub tariff_named : Finds tariffs_kept tariff_named_text (Text name ∷ []) tariff_columns IsName (λ rows. find has_name rows.tariffs)
  tariff_named = record {
    table = tariffs_table;
    query = tariff_named_query;
    names = codes "name" ∷ [];
    asks = tariff_named_asks name;
    stands = λ s has. has.0.has;
    one = λ a b keeps_a keeps_b same. one_tariff a b same;
    kept = λ rows of_office. found_keeps has_name IsName rows.tariffs (tariff_names_keep rows of_office);
    answers = λ db rows held of_office answer is.
        let one = only_one rows of_office in
        one_hidden (record {
          holds_them = held.1.1.0;
          some = λ r none. cc;
          passes = λ hidden r. last_term (text_is r name);
          shows = λ hidden r. refl;
        }) answer is
        (subst (λ (l : List (List ℕ)). length l ≤ 1) (sym one) (few (find has_name rows.tariffs))) ∙ ap (map tariff_columns) one;
  }
