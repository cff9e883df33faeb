-- Statements that list records of the office's rows.
use Rattle.std.proofs.Common.{◌≡◌, ℕ, List, [], ◌∷◌, map, Result, Ok, Err, IfOk, IfErr, OnOk, refl, sym, ap₂, subst}
use Rattle.std.specs.Prelude.{All}
use Rattle.std.specs.List.{AllZip}
use Rattle.std.proofs.lemmas.List.Elements.{All-cons, All-head, All-nil, All-same, All-tail}
use Rattle.sqlite.specs.Effect.{Database}
use Rattle.sqlite.specs.Order.{Row}
use Rattle.sqlite.specs.State.{HasCleanDisk, IsUnchanged, State}
use Rattle.sqlite_resolve.specs.Scope.{Name}
use Rattle.sqlite_schema.specs.declared.schema.Schema.{Schema}
use Rattle.sqlite_schema.specs.declared.schema.Table.{Table}
use Rattle.sqlite_sql.specs.Query.{IsAnswer, Query}
use Rattle.one_table.specs.Answer.{GivesAll, OnlyAsks}
use Rattle.one_table.specs.Place.{Has}
use Rattle.one_table.specs.Standing.{place_in, tree_in}
use Rattle.book_tables.specs.Holds.{IsKept}
use Rattle.book_tables.specs.Kept.{Kept}
use Rattle.book_tables.specs.reading.Reading.{AreOfOffice, FailsToReadOf, FailsToShowRow, HasTable, HasTableRows, IsShown, ReadsTable, ShowsRecord, TableHolds}
use Rattle.book_tables.specs.reading.Questions.{Question, question}
use Rattle.book_tables.specs.reading.Seen.{HasSpoilt, Sees, ShowsAll}
use Rattle.book_tables.specs.row.Rows.{Rows}
use Rattle.book_tables.specs.declared.error.TableError.{TableError}
use Rattle.book_tables.specs.declared.error.TableError.TheVariants.{RowOfNoOffice}
use Rattle.one_table.specs.ReadsOnly.{ReadsOnly}
use Rattle.one_table.proofs.ReadsOnlyLemmas.{read_where}
use Rattle.book_tables.proofs.ReadingLemmas.SeenLemmas.{seen_all, spoilt as row_spoilt}
use Rattle.book_tables.proofs.ReadingLemmas.ReadLemmas as read
use Rattle.book_tables.proofs.ReadingLemmas.ReadLemmas.{Asks}

-- ---- values that stand around a record

read_of : {X M : Type 0} (IsReadAs : Row → M → Type 0) (record_of : X → M) (rows : List Row) (xs : List X)
    → AllZip (λ row x. IsReadAs row (record_of x)) rows xs → AllZip IsReadAs rows (map record_of xs)
read_of IsReadAs record_of [] [] all = all
read_of IsReadAs record_of [] (x ∷ xs) all = absurd all
read_of IsReadAs record_of (row ∷ rows) [] all = absurd all
read_of IsReadAs record_of (row ∷ rows) (x ∷ xs) all = (all.0, read_of IsReadAs record_of rows xs all.1)

-- a reader that gives values with a record in each gives these records
pub gives_records : {X M : Type 0} (shown : M → Row) (keeps : M → Type 0) (sql : List ℕ) (params : Row) (old new : State)
    (record_of : X → M) (xs : List X) (ms : List M) → ms ≡ map record_of xs
    → GivesAll (λ row x. IsShown shown keeps row (record_of x)) sql params old new xs → GivesAll (IsShown shown keeps) sql params old new ms
gives_records shown keeps sql params old new record_of xs ms are given = record {
  rows = given.rows;
  shown = given.shown;
  read = subst (AllZip (IsShown shown keeps) given.rows) (sym are) (read_of (IsShown shown keeps) record_of given.rows xs given.read);
}

-- ---- what is read of rows that are known

module _ {M : Type 0} (shown : M → Row) (keeps : M → Type 0) where
  -- of records that keep their rules, each row that shows one can be read
  pub readable : (found : List M) → All keeps found → All (ShowsRecord shown keeps) (map shown found)
  readable [] kept = All-nil (ShowsRecord shown keeps)
  readable (m ∷ ms) kept =
      All-cons (ShowsRecord shown keeps) (shown m) (map shown ms) (m, (refl, All-head keeps m ms kept)) (readable ms (All-tail keeps m ms kept))

  -- what is read of rows that show known records are these records
  pub values_are : ((a b : M) → keeps a → keeps b → shown a ≡ shown b → a ≡ b) → (found values : List M) → All keeps found
      → AllZip (IsShown shown keeps) (map shown found) values → values ≡ found
  values_are one [] [] kept all = refl
  values_are one [] (x ∷ xs) kept all = absurd all
  values_are one (m ∷ ms) [] kept all = absurd all
  values_are one (m ∷ ms) (x ∷ xs) kept all =
      ap₂ ◌∷◌ (one x m all.0.1 (All-head keeps m ms kept) all.0.0) (values_are one ms xs (All-tail keeps m ms kept) all.1)

-- the text, with these parameters, answers the records that are found in the office's rows, each
-- once and in this order, and no others
pub record Lists {M : Type 0} (k : Kept) (sql : List ℕ) (params : Row) (shown : M → Row) (keeps : M → Type 0) (IsFound : Rows → List M → Type 0) : Type 0 where
  pub table : ℕ → Table
  pub query : ℕ → Query
  pub names : List Name
  pub asks : Asks table query names sql params
  pub stands : (s : Schema) → IsKept s k → Has s (place_in s k.table.name) (table (tree_in s k.table.name))
  pub one : (a b : M) → keeps a → keeps b → shown a ≡ shown b → a ≡ b
  pub kept : (rows : Rows) → AreOfOffice rows → (found : List M) → IsFound rows found → All keeps found
  pub answers : (db : Database) (rows : Rows) → TableHolds k db rows → AreOfOffice rows → (answer : List Row)
      → IsAnswer (query (tree_in db.schema k.table.name)) db.trees params answer
      → (found : List M) × IsFound rows found × (answer ≡ map shown found)

module _ {M : Type 0} {k : Kept} {sql : List ℕ} {params : Row} {shown : M → Row} {keeps : M → Type 0} {IsFound : Rows → List M → Type 0}
    (l : Lists k sql params shown keeps IsFound) where
  -- where an open connection has the table, the text is understood and writes nothing
  pub only_asks : (s : State) → HasTable k s → OnlyAsks sql s
  only_asks = read.only_asks l.asks k l.stands

  -- what a reader gives
  pub listed : (old new : State) (rows : Rows) → HasTableRows k old rows → AreOfOffice rows → IsUnchanged old new → (values : List M)
      → GivesAll (IsShown shown keeps) sql params old new values → IsFound rows values
  listed old new rows has of_office same values given =
      let held = has same.0.was_open in
      let found = l.answers old.now rows held of_office given.rows (read.answer_is l.asks k l.stands old new held.0 given.rows given.shown) in
      let read_so = subst (λ (answer : List Row). AllZip (IsShown shown keeps) answer values) found.2 given.read in
      subst (IsFound rows) (sym (values_are shown keeps l.one found.0 values (l.kept rows of_office found.0 found.1) read_so)) found.1

  -- what a reader answers has the records that are found in the rows
  pub gives : {A : Type 0} (items : A → List M) (old new : State) (rows : Rows) → HasTableRows k old rows → AreOfOffice rows
      → (r : Result A TableError) (values : Row) → values ≡ params
      → OnOk r (IsUnchanged old new) → IfOk r (λ x. GivesAll (IsShown shown keeps) sql values old new (items x)) → IfOk r (λ x. IsFound rows (items x))
  gives items old new rows has of_office (Err e) values are same none = none
  gives items old new rows has of_office (Ok x) values are same given =
      listed old new rows has of_office same (items x) (subst (λ ps. GivesAll (IsShown shown keeps) sql ps old new (items x)) are given)

  -- of the rows of an office, each row of an answer shows a record
  pub all_readable : (old : State) (rows : Rows) → TableHolds k old.now rows → AreOfOffice rows → (answer : List Row)
      → IsAnswer (l.query (tree_in old.now.schema k.table.name)) old.now.trees params answer → All (ShowsRecord shown keeps) answer
  all_readable old rows held of_office answer is =
      let found = l.answers old.now rows held of_office answer is in
      All-same (ShowsRecord shown keeps) answer (map shown found.0) found.2 (readable shown keeps found.0 (l.kept rows of_office found.0 found.1))

  -- why it fails
  pub fails : {A : Type 0} (old new : State) → HasTable k old → (r : Result A TableError) (values : Row) → values ≡ params
      → IfErr r (FailsToShowRow (ShowsRecord shown keeps) sql values old new) → IfErr r (FailsToReadOf (TableHolds k) old new)
  fails old new has = read.fails l.asks k l.stands (ShowsRecord shown keeps) old new has (all_readable old)

  -- what it leaves of the tables
  pub reads : {A : Type 0} (old new : State) (r : Result A TableError) (values : Row) → values ≡ params
      → ReadsOnly (OnlyAsks sql) IsUnchanged (FailsToShowRow (ShowsRecord shown keeps) sql values) old new r → ReadsTable k old new r
  reads old new r values are this = read_where r (only_asks old) this (λ clean has. fails old new has r values are (this.faults clean (only_asks old has)))

  -- what it has seen, whatever the rows are
  abbrev pub asked : Question M
  asked = question k shown keeps sql params

  -- the records that a reader gives are those that all rows of an answer show
  pub seen : {A : Type 0} (items : A → List M) (old new : State) → HasTable k old → (values : Row) → values ≡ params
      → (r : Result A TableError) → OnOk r (IsUnchanged old new)
      → IfOk r (λ x. GivesAll (IsShown shown keeps) sql values old new (items x)) → IfOk r (λ x. ShowsAll asked old.now (items x))
  seen items old new has values are (Err e) same none = none
  seen items old new has values are (Ok x) same given = seen_all asked l.asks l.stands old new has same values are (items x) given

  -- where a reader tells of a row of no office, a row of an answer shows no record
  pub spoilt : {A : Type 0} (old new : State) → HasTable k old → (values : Row) → values ≡ params → (r : Result A TableError)
      → IfErr r (FailsToShowRow (ShowsRecord shown keeps) sql values old new) → IfErr r (λ e. e ≡ RowOfNoOffice → HasSpoilt asked old.now)
  spoilt old new has values are r = row_spoilt asked l.asks l.stands old new has r values are

  -- a reader of the text has seen the records that it gives, or a row that shows none
  pub sees : {A : Type 0} (items : A → List M) (old new : State) (r : Result A TableError) (values : Row) → values ≡ params
      → ReadsOnly (OnlyAsks sql) IsUnchanged (FailsToShowRow (ShowsRecord shown keeps) sql values) old new r
      → (HasCleanDisk new → OnlyAsks sql old → IfOk r (λ x. GivesAll (IsShown shown keeps) sql values old new (items x)))
      → Sees k (λ db x. ShowsAll asked db (items x)) (HasSpoilt asked) old new r
  sees items old new r values are this given = record {
    seen = λ clean has. seen items old new has values are r (this.same clean (only_asks old has)) (given clean (only_asks old has));
    spoilt = λ clean has. spoilt old new has values are r (this.faults clean (only_asks old has));
  }
