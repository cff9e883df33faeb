-- Writes that leave all tables but those of some names, one after another.
use Rattle.std.proofs.Common.{◌≡◌, ◌≢◌, ℕ, Bool, true, IsTrue, List, [], ◌∷◌, bytes_eq, inl, inr, sym, subst, ◌∙◌}
use Rattle.std.specs.List.{AllByRecursion, list_all, list_any}
use Rattle.std.proofs.lemmas.Bool.{and_parts, false≢true, or_cases}
use Rattle.std.proofs.lemmas.Slice.Eq.{bytes_eq-Decides}
use Rattle.sqlite_rules.specs.Edit.{IsNoIndex}
use Rattle.sqlite.specs.State.{State}
use Rattle.sqlite_keyed.proofs.ListLemmas.{all_both, all_weaker}
use Rattle.sqlite_schema.specs.declared.schema.Schema.{Schema}
use Rattle.sqlite_schema.specs.declared.schema.Table.{Table}
use Rattle.one_table.specs.Standing.{tree_in}
use Rattle.one_table.proofs.ChangeLemmas.{stays_then}
use Rattle.book_tables.specs.Holds.{HasOffice}
use Rattle.book_tables.specs.writing.Writing.{IsOfNone, WritesOnly}

-- a tree of none of more tables is of none of these
abbrev pub AreAmong : List (List ℕ) → List (List ℕ) → Type 0
AreAmong names more = (s : Schema) (tree : ℕ) → IsOfNone s more tree → IsOfNone s names tree

-- where only these tables may have other rows, only these and some more may
pub only_among : (names more : List (List ℕ)) → AreAmong names more → (old new : State) → WritesOnly names old new → WritesOnly more old new
only_among names more among old new only = record {
  inside = only.inside;
  marks = only.marks;
  schema = only.schema;
  tables = all_weaker _ _ (λ u kept apart. kept (among old.now.schema u.tree apart)) old.now.schema.tables only.tables;
  others = λ tree apart none. only.others tree (among old.now.schema tree apart) none;
  sound = only.sound;
}

-- whether a name is one of these
abbrev pub is_one_of : List (List ℕ) → List ℕ → Bool
is_one_of names name = list_any (λ n. bytes_eq name n) names

-- whether all names are
abbrev pub are_of : List (List ℕ) → List (List ℕ) → Bool
are_of more names = list_all (λ name. is_one_of more name) names

not_of : (name : List ℕ) (more : List (List ℕ)) → is_one_of more name ≡ true → (s : Schema) (tree : ℕ) → IsOfNone s more tree → tree ≢ tree_in s name
not_of name [] is s tree none = absurd (false≢true is)
not_of name (n ∷ more) is s tree none = elim (or_cases (bytes_eq name n) (is_one_of more name) is) [
  | inl same ↦ subst (λ (n : List ℕ). tree ≢ tree_in s n) (sym ((bytes_eq-Decides name n).0 same)) none.0
  | inr later ↦ not_of name more later s tree none.1
]

among : (names more : List (List ℕ)) → are_of more names ≡ true → AreAmong names more
among [] more are s tree none = tt
among (name ∷ names) more are s tree none =
    let parts = and_parts (is_one_of more name) (are_of more names) are in
    (not_of name more parts.0 s tree none, among names more parts.1 s tree none)

-- the same where the names of these tables are some of more
pub only_named : (names more : List (List ℕ)) → are_of more names ≡ true → (old new : State) → WritesOnly names old new → WritesOnly more old new
only_named names more are = only_among names more (among names more are)

-- where each of two writes leaves all but these tables, both together do
pub only_both : (names : List (List ℕ)) (old mid new : State) → WritesOnly names old mid → WritesOnly names mid new → WritesOnly names old new
only_both names old mid new first second = record {
  inside = stays_then old mid new first.inside second.inside;
  marks = second.marks ∙ first.marks;
  schema = second.schema ∙ first.schema;
  tables = all_both _ _ _ (λ u kept later apart. later (there u.tree apart) ∙ kept apart) old.now.schema.tables first.tables
      (subst (λ (s : Schema). AllByRecursion (λ (u : Table). IsOfNone mid.now.schema names u.tree → new.now.trees u.tree
      ≡ mid.now.trees u.tree) s.tables) first.schema second.tables);
  others = λ tree apart none. second.others tree (there tree apart) (subst (λ (s : Schema). IsNoIndex s tree) (sym first.schema) none)
      ∙ first.others tree apart none;
  sound = second.sound;
}
  where
    there : (tree : ℕ) → IsOfNone old.now.schema names tree → IsOfNone mid.now.schema names tree
    there tree apart = subst (λ (s : Schema). IsOfNone s names tree) (sym first.schema) apart

-- of two writes only the tables of both may have other rows
pub only_then : (names a b : List (List ℕ)) → are_of names a ≡ true → are_of names b ≡ true → (old mid new : State)
    → WritesOnly a old mid → WritesOnly b mid new → WritesOnly names old new
only_then names a b a_in b_in old mid new first second =
    only_both names old mid new (only_named a names a_in old mid first) (only_named b names b_in mid new second)

-- the office's tables are still there
pub tables_there : (names : List (List ℕ)) (old mid : State) → WritesOnly names old mid → (IsTrue old.is_open → HasOffice old.now.schema)
    → IsTrue mid.is_open → HasOffice mid.now.schema
tables_there names old mid only has is = subst HasOffice (sym only.schema) (has only.inside.was_open)
