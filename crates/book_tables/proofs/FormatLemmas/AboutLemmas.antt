-- What `about` tells, whatever the rows of the other tables are.
use Rattle.std.proofs.Common.{◌≡◌, ℕ, zero, suc, false, List, [], ◌∷◌, codes, bytes_eq, arith, ap, ◌∙◌}
use Rattle.std.specs.List.{AllByRecursion}
use Rattle.std.proofs.lemmas.Bool.{le-leb}
use Rattle.sqlite.specs.Effect.{Database}
use Rattle.sqlite.specs.State.{State}
use Rattle.sqlite_schema.specs.declared.schema.Schema.{Schema}
use Rattle.sqlite_schema.specs.declared.schema.Table.{Table}
use Rattle.one_table.specs.Making.{MakesTables}
use Rattle.one_table.specs.Standing.{tree_in}
use Rattle.book_tables.specs.format.Format.{TellsFormat}
use Rattle.book_tables.specs.Holds.{HasOffice, HasOfficeOf, IsKept, rows_in}
use Rattle.book_tables.specs.Kept.{Kept, about_kept, kept, kept_names, kept_tables, later}
use Rattle.book_tables.specs.row.Rows.{about_rows}
use Rattle.book_tables.specs.writing.Writing.{IsOfNone, WritesOnly}
use Rattle.book_tables.proofs.EachTableLemmas.{each_there}
use Rattle.book_tables.proofs.HoldsLemmas.{of_upto}
use Rattle.book_tables.proofs.KeptLemmas.{listed_holds, names_differ, trees_differ}
use Rattle.book_tables.proofs.OfficeTableLemmas.{IsInOffice, about_in}

-- it is made empty, or stays as it was
pub told_made : (n : ℕ) (a b : Database) → HasOfficeOf n a.schema → MakesTables (kept_tables (later n)) a b → TellsFormat n a
    → rows_in b (codes "about") ≡ about_rows n
told_made zero a b had m told = m.new.0.1
told_made (suc n) a b had m told = (m.still about_kept.table
    (of_upto (IsKept a.schema) (suc n) about_kept kept each_there.about (le-leb 1 (suc n) (omega arith)) had.tables).0).2 ∙ told

-- a table of the office that is not `about`
abbrev pub IsAnother : Kept → Type 0
IsAnother u = IsInOffice u × (bytes_eq about_kept.table.name u.table.name ≡ false)

-- a write of others leaves it
module _ (old new : State) (has : HasOffice old.now.schema) where
  abbrev its_tree : ℕ
  its_tree = tree_in old.now.schema (codes "about")

  none_of : (us : List Kept) → AllByRecursion IsAnother us → IsOfNone old.now.schema (kept_names us) its_tree
  none_of [] others = tt
  none_of (u ∷ us) others = (
    trees_differ old.now.schema about_kept.table u.table (about_in.there old.now.schema has).0 (others.0.0.there old.now.schema has).0
        (names_differ _ _ others.0.1),
    none_of us others.1,
  )

  -- so the rows of `about` are as they were
  pub told_left : (us : List Kept) → AllByRecursion IsAnother us → WritesOnly (kept_names us) old new → rows_in new.now (codes "about")
      ≡ rows_in old.now (codes "about")
  told_left us others only =
      let there = (about_in.there old.now.schema has).0.has.listed in
      ap (λ (s : Schema). new.now.trees (tree_in s (codes "about"))) only.schema
      ∙ listed_holds (λ (u : Table). IsOfNone old.now.schema (kept_names us) u.tree → new.now.trees u.tree ≡ old.now.trees u.tree)
      old.now.schema.tables _ (record about_kept.table { tree = its_tree }) there only.tables (none_of us others)
