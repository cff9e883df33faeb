-- `about` tells the present format in place of an older one.
use Rattle.std.proofs.Common.{◌≡◌, ℕ, ℤ, suc, Bool, true, List, [], ◌∷◌, codes, pos, refl, ap, arith, ◌∙◌}
use Rattle.sqlite.specs.State.{State}
use Rattle.sqlite_keyed.specs.Keyed.{IsKeyedBy}
use Rattle.sqlite_schema.specs.declared.schema.Schema.{Schema}
use Rattle.sqlite_schema.specs.declared.schema.Table.{Table}
use Rattle.sqlite_sql.specs.Query.{Query}
use Rattle.sqlite_sql.specs.Term.{Term, col, lit, op2}
use Rattle.sqlite_sql.specs.declared.ops.BinaryOp.TheVariants.{Compare}
use Rattle.sqlite_sql.specs.declared.ops.CompareOp.TheVariants.{Eq}
use Rattle.sqlite_tied.specs.Compute.{everything}
use Rattle.sqlite_typed.proofs.TestLemmas.{last_term}
use Rattle.sqlite_value.specs.declared.keys.Collation.TheVariants.{Binary}
use Rattle.sqlite_value.specs.declared.value.Value.TheVariants.{Null}
use Rattle.one_table.specs.Changing.{IsUpdate, sets_meant, update_in, update_meant}
use Rattle.one_table.specs.InTransaction.{SetsRows}
use Rattle.one_table.specs.Listed.{no_limit, query_on}
use Rattle.one_table.specs.Reading.{is_whole}
use Rattle.one_table.specs.Standing.{tree_in}
use Rattle.one_table.specs.Updating.{Sets}
use Rattle.one_table.proofs.CastLemmas.{cast_int, cast_no_int}
use Rattle.one_table.proofs.TestsLemmas.{number_is}
use Rattle.one_table.proofs.UpdateLemmas.{sets_listed}
use Rattle.book_tables.specs.format.Making.{TellsPresent}
use Rattle.book_tables.specs.row.Rows.{about_row, number, present_format}
use Rattle.book_tables.specs.Tables.{about_table}
use Rattle.book_tables.specs.writing.Writes.{format_set_text}
use Rattle.book_tables.proofs.KeptLemmas.{about_changed}
use Rattle.book_tables.proofs.OfficeTableLemmas.{about_in}
use Rattle.book_tables.proofs.WritingLemmas.WriteLemmas.{changes_only, only_one}

-- ---- the text

-- the test that a row's number is 1
abbrev pub is_the_row : List Term
is_the_row = op2 (Compare Eq Binary) (col 1 0) (lit (number 1)) ∷ []

-- the row's number, and the row that it becomes: that of the present format
abbrev pub format_set_terms : List Term
format_set_terms = col 1 0 ∷ col 1 0 ∷ lit Null ∷ lit (number 4) ∷ []

-- the read of that row and of what it becomes
abbrev pub format_set_query : ℕ → Query
format_set_query tree = query_on tree is_the_row format_set_terms [] no_limit

-- the text means an UPDATE of `about` by this read
pub format_set_means : (tree : ℕ) → IsUpdate (about_table tree) (format_set_query tree) format_set_text
unfolding everything update_meant update_in sets_meant
format_set_means tree = record { means = refl; from = refl }

-- and is one statement with no parameters
pub format_set_whole : is_whole format_set_text 0 ≡ true
unfolding everything is_whole
format_set_whole = refl

-- ---- the row

module _ (old new : State) where
  abbrev about : Table
  about = about_table (tree_in old.now.schema (codes "about"))

  -- the row of a format has the number 1
  abbrev key : ℕ → ℤ
  key n = pos 1

  abbrev always : ℕ → Bool
  always n = true

  abbrev present : ℕ → ℕ
  present n = present_format

  telling : Sets about is_the_row format_set_terms [] key about_row always present
  telling = record {
    keyed = λ n. refl;
    passes = λ n. last_term (number_is 1 1);
    identifies = λ n. refl;
    becomes = λ n. rw (cast_int (pos 1), cast_no_int, cast_int (pos 4)) refl;
    stays = λ n. refl;
  }

  -- where `about` told a format, it tells the present one after the UPDATE
  pub tells_present : (before : ℕ) → SetsRows about (format_set_query about.tree) [] old new → TellsPresent (suc before) old new
  tells_present before set =
      let only = only_one (codes "about") about _ old new refl set.changed in
      record {
        only = only;
        rows = λ rows held.
            let one : IsKeyedBy key (suc before ∷ []) = (tt, tt) in
            let changed = sets_listed about is_the_row format_set_terms [] key about_row always present telling old new (suc before ∷ [])
            set (about_in.holds (suc before) old.now rows held) one (omega arith) in
            about_changed (suc before) old.now new.now rows held (changes_only (codes "about") old new only) changed.rows_are;
        tells = λ told.
            let one : IsKeyedBy key (suc before ∷ []) = (tt, tt) in
            let changed = sets_listed about is_the_row format_set_terms [] key about_row always present telling old new (suc before ∷ [])
            set told one (omega arith) in
            ap (λ (s : Schema). new.now.trees (tree_in s (codes "about"))) only.schema ∙ changed.rows_are;
      }
