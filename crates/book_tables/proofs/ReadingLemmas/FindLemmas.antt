-- Statements that look up one record of the office's rows.
use Rattle.std.proofs.Common.{sym, Ok, Err, subst, ◌≡◌, ℕ, List, [], map, Option, None, Some, Result, IfOk, IfErr, OnOk, IfSome, refl}
use Rattle.std.specs.Prelude.{All}
use Rattle.std.specs.Option.{option_to_list}
use Rattle.std.proofs.lemmas.List.Elements.{All-cons, All-nil, All-same}
use Rattle.sqlite.specs.Effect.{Database}
use Rattle.sqlite.specs.Order.{Row}
use Rattle.sqlite.specs.State.{HasCleanDisk, IsUnchanged, State}
use Rattle.sqlite_resolve.specs.Scope.{Name}
use Rattle.sqlite_schema.specs.declared.schema.Schema.{Schema}
use Rattle.sqlite_schema.specs.declared.schema.Table.{Table}
use Rattle.sqlite_sql.specs.Query.{IsAnswer, Query}
use Rattle.one_table.specs.Answer.{GivesFirst, OnlyAsks}
use Rattle.one_table.specs.Place.{Has}
use Rattle.one_table.specs.Standing.{place_in, tree_in}
use Rattle.book_tables.specs.Holds.{IsKept}
use Rattle.book_tables.specs.Kept.{Kept}
use Rattle.book_tables.specs.reading.Reading.{AreOfOffice, FailsToReadOf, FailsToShowRow, HasTable, HasTableRows, IsShown, ReadsTable, ShowsRecord, TableHolds}
use Rattle.book_tables.specs.reading.Questions.{Question, question}
use Rattle.book_tables.specs.reading.Seen.{HasSpoilt, SeesFirst, ShowsFirst}
use Rattle.book_tables.specs.row.Rows.{Rows}
use Rattle.book_tables.specs.declared.error.TableError.{TableError}
use Rattle.book_tables.specs.declared.error.TableError.TheVariants.{RowOfNoOffice}
use Rattle.one_table.specs.ReadsOnly.{ReadsOnly}
use Rattle.one_table.proofs.ReadsOnlyLemmas.{read_where}
use Rattle.book_tables.proofs.ReadingLemmas.SeenLemmas.{seen_first, spoilt as row_spoilt}
use Rattle.book_tables.proofs.ReadingLemmas.ReadLemmas as read
use Rattle.book_tables.proofs.ReadingLemmas.ReadLemmas.{Asks}

-- the text, with these parameters, answers this record of the office's rows and no other
pub record Finds {M : Type 0} (k : Kept) (sql : List ℕ) (params : Row) (shown : M → Row) (keeps : M → Type 0) (found : Rows → Option M) : Type 0 where
  pub table : ℕ → Table
  pub query : ℕ → Query
  pub names : List Name
  pub asks : Asks table query names sql params
  pub stands : (s : Schema) → IsKept s k → Has s (place_in s k.table.name) (table (tree_in s k.table.name))
  pub one : (a b : M) → keeps a → keeps b → shown a ≡ shown b → a ≡ b
  pub kept : (rows : Rows) → AreOfOffice rows → IfSome (found rows) keeps
  pub answers : (db : Database) (rows : Rows) → TableHolds k db rows → AreOfOffice rows → (answer : List Row)
      → IsAnswer (query (tree_in db.schema k.table.name)) db.trees params answer
      → answer ≡ map shown (option_to_list (found rows))

module _ {M : Type 0} {k : Kept} {sql : List ℕ} {params : Row} {shown : M → Row} {keeps : M → Type 0} {found : Rows → Option M}
    (f : Finds k sql params shown keeps found) where
  -- where an open connection has the table, the text is understood and writes nothing
  pub only_asks : (s : State) → HasTable k s → OnlyAsks sql s
  only_asks = read.only_asks f.asks k f.stands

  -- what a reader gives
  pub gives : (old new : State) (rows : Rows) → HasTableRows k old rows → AreOfOffice rows → (r : Result (Option M) TableError) (values : Row) → values ≡ params
      → OnOk r (IsUnchanged old new) → IfOk r (GivesFirst (IsShown shown keeps) sql values old new) → IfOk r (λ x. x ≡ found rows)
  gives old new rows has of_office =
      read.gives f.asks k f.stands shown keeps f.one old new rows has (found rows) (f.kept rows of_office)
      (λ answer held is. f.answers old.now rows held of_office answer is)

  found_such : (P : Option M → Type 0) (x : Option M) → P x → (r : Result (Option M) TableError) → IfOk r (λ y. y ≡ x) → IfOk r P
  found_such P x such (Err e) none = none
  found_such P x such (Ok y) is = subst P (sym is) such

  -- what holds of the record that is found holds of what a reader gives
  pub gives_such : (old new : State) (rows : Rows) → HasTableRows k old rows → AreOfOffice rows → (P : Option M → Type 0) → P (found rows)
      → (r : Result (Option M) TableError) (values : Row) → values ≡ params
      → OnOk r (IsUnchanged old new) → IfOk r (GivesFirst (IsShown shown keeps) sql values old new) → IfOk r P
  gives_such old new rows has of_office P such r values are same given =
      found_such P (found rows) such r (gives old new rows has of_office r values are same given)

  readable : (o : Option M) → IfSome o keeps → All (ShowsRecord shown keeps) (map shown (option_to_list o))
  readable None kept = All-nil (ShowsRecord shown keeps)
  readable (Some x) kept = All-cons (ShowsRecord shown keeps) (shown x) [] (x, (refl, kept)) (All-nil (ShowsRecord shown keeps))

  -- why it fails
  pub fails : {A : Type 0} (old new : State) → HasTable k old → (r : Result A TableError) (values : Row) → values ≡ params
      → IfErr r (FailsToShowRow (ShowsRecord shown keeps) sql values old new) → IfErr r (FailsToReadOf (TableHolds k) old new)
  fails old new has =
      read.fails f.asks k f.stands (ShowsRecord shown keeps) old new has
      (λ rows held of_office answer is. All-same (ShowsRecord shown keeps) answer (map shown (option_to_list (found rows)))
      (f.answers old.now rows held of_office answer is) (readable (found rows) (f.kept rows of_office)))

  -- what it leaves of the tables
  pub reads : {A : Type 0} (old new : State) (r : Result A TableError) (values : Row) → values ≡ params
      → ReadsOnly (OnlyAsks sql) IsUnchanged (FailsToShowRow (ShowsRecord shown keeps) sql values) old new r → ReadsTable k old new r
  reads old new r values are this = read_where r (only_asks old) this (λ clean has. fails old new has r values are (this.faults clean (only_asks old has)))

  -- what it has seen, whatever the rows are
  abbrev pub asked : Question M
  asked = question k shown keeps sql params

  -- the record that a reader gives is the one that the first row of an answer shows
  pub seen : (old new : State) → HasTable k old → (values : Row) → values ≡ params → (r : Result (Option M) TableError)
      → OnOk r (IsUnchanged old new) → IfOk r (GivesFirst (IsShown shown keeps) sql values old new) → IfOk r (ShowsFirst asked old.now)
  seen old new has values are (Err e) same none = none
  seen old new has values are (Ok x) same given = seen_first asked f.asks f.stands old new has same values are x given

  -- where a reader tells of a row of no office, a row of an answer shows no record
  pub spoilt : {A : Type 0} (old new : State) → HasTable k old → (values : Row) → values ≡ params → (r : Result A TableError)
      → IfErr r (FailsToShowRow (ShowsRecord shown keeps) sql values old new) → IfErr r (λ e. e ≡ RowOfNoOffice → HasSpoilt asked old.now)
  spoilt old new has values are r = row_spoilt asked f.asks f.stands old new has r values are

  -- a reader of the text has seen the record that it gives, or a row that shows none
  pub sees : (old new : State) (r : Result (Option M) TableError) (values : Row) → values ≡ params
      → ReadsOnly (OnlyAsks sql) IsUnchanged (FailsToShowRow (ShowsRecord shown keeps) sql values) old new r
      → (HasCleanDisk new → OnlyAsks sql old → IfOk r (GivesFirst (IsShown shown keeps) sql values old new)) → SeesFirst asked old new r
  sees old new r values are this given = record {
    seen = λ clean has. seen old new has values are r (this.same clean (only_asks old has)) (given clean (only_asks old has));
    spoilt = λ clean has. spoilt old new has values are r (this.faults clean (only_asks old has));
  }
