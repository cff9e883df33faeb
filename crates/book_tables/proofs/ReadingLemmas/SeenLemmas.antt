-- What a reader gives, and why it stops, is what was seen of the database.
use Rattle.std.proofs.Common.{◌≡◌, ◌≢◌, ◌⊎◌, ◌++◌, ℕ, List, [], ◌∷◌, Option, None, Some, Result, Ok, Err, IfOk, IfErr, IfSome, IsErrAnd, Any, inl, inr, option_map, refl, sym, subst, take, unwrap_or, ◌∙◌, arith}
use Rattle.std.specs.Prelude.{Vec}
use Rattle.std.specs.declared.alloc.Global.{Global}
use Rattle.std.specs.List.{AllZip}
use Rattle.std.specs.Option.{option_to_list}
use Rattle.std.proofs.lemmas.List.{get_or_append_left, length-append}
use Rattle.sqlite.specs.Order.{Row}
use Rattle.sqlite.specs.Effect.{Database}
use Rattle.sqlite.specs.State.{Begins, HasCleanDisk, IsUnchanged, Shown, State}
use Rattle.sqlite.specs.declared.error.Error.TheVariants.{SqliteFailure}
use Rattle.sqlite.specs.declared.error.ErrorCode.TheVariants.{OutOfMemory}
use Rattle.sqlite.proofs.Callers.{begins_as, reads_as}
use Rattle.sqlite_resolve.specs.Scope.{Name}
use Rattle.sqlite_schema.specs.declared.schema.Schema.{Schema}
use Rattle.sqlite_schema.specs.declared.schema.Table.{Table}
use Rattle.sqlite_sql.specs.Query.{Query}
use Rattle.one_table.specs.Answer.{FailsToRead as FailsToAnswer, GivesAll, GivesFirst, IsFirst}
use Rattle.one_table.specs.Place.{Has}
use Rattle.one_table.specs.Reading.{Means, select_as}
use Rattle.one_table.specs.Standing.{place_in, tree_in}
use Rattle.one_table.specs.declared.read_fault.ReadFault.{ReadFault}
use Rattle.one_table.specs.declared.read_fault.ReadFault.TheVariants as fault
use Rattle.one_table.proofs.ChangeLemmas.{if_err, if_ok}
use Rattle.one_table.proofs.ListedLemmas.{command_is, is_plain}
use Rattle.tariff.specs.Steps.{IsSteps}
use Rattle.tariff.specs.declared.step.Step.{Step}
use Rattle.book_tables.specs.Holds.{IsKept}
use Rattle.book_tables.specs.Kept.{Kept, dated_steps_kept}
use Rattle.book_tables.specs.reading.Questions.{Question, question, the_first_day, the_steps_from}
use Rattle.book_tables.specs.reading.Reading.{FailsToShowRow, HasTable, IsShown, ShowsRecord, told}
use Rattle.book_tables.specs.reading.Seen.{AreAnswer, AreLatestSeen, AreStepsSeen, HasSpoilt, HasSpoiltLatest, HasSpoiltSteps, Sees, SeesAll, SeesFirst, SeesLatest, SeesSteps, ShowsAll, ShowsFirst}
use Rattle.book_tables.specs.declared.error.TableError.{TableError}
use Rattle.book_tables.specs.declared.error.TableError.TheVariants as fails
use Rattle.book_tables.proofs.ReadingLemmas.ReadLemmas as read
use Rattle.book_tables.proofs.ReadingLemmas.ReadLemmas.{Asks}

first_shown : {M : Type 0} (IsReadAs : Row → M → Type 0) (sql : List ℕ) (params : Row) (old new : State) (rows : List Row)
    (first : Option M) → IsFirst IsReadAs sql params old new first rows → AllZip IsReadAs (take 1 rows) (option_to_list first)
first_shown IsReadAs sql params old new rows None none = subst (λ (rows : List Row). AllZip IsReadAs (take 1 rows) []) (sym none) tt
first_shown IsReadAs sql params old new rows (Some x) (row, more, are, is) =
    subst (λ (rows : List Row). AllZip IsReadAs (take 1 rows) (x ∷ [])) (sym are) (is, tt)

module _ {M : Type 0} (q : Question M) {table : ℕ → Table} {query : ℕ → Query} {names : List Name} (asks : Asks table query names q.text q.params)
    (stands : (s : Schema) → IsKept s q.table → Has s (place_in s q.table.table.name) (table (tree_in s q.table.table.name))) where
  abbrev IsRow : Row → M → Type 0
  IsRow = IsShown q.shown q.keeps

  abbrev IsReadable : Row → Type 0
  IsReadable = ShowsRecord q.shown q.keeps

  abbrev asked : Schema → Query
  asked s = query (tree_in s q.table.table.name)

  means : (s : Schema) → IsKept s q.table → Means s q.text (select_as (asked s) names)
  means = read.means asks q.table stands

  answer : (old new : State) → IsKept old.now.schema q.table → (rows : List Row) → Shown q.text q.params old new rows → AreAnswer q.text q.params old.now rows
  answer old new has rows shown =
      let s = old.now.schema in
      let m = means s has in
      record {
        command = select_as (asked s) names;
        means = m;
        read = reads_as q.text q.params old new s refl (select_as (asked s) names) (command_is m) (is_plain m) m.unlisted rows shown;
      }

  -- the record of the first row
  pub seen_first : (old new : State) → HasTable q.table old → IsUnchanged old new → (values : Row) → values ≡ q.params → (first : Option M)
      → GivesFirst IsRow q.text values old new first → ShowsFirst q old.now first
  seen_first old new has same values are first is =
      let given = subst (λ ps. GivesFirst IsRow q.text ps old new first) are is in
      record {
        rows = given.rows;
        answer = answer old new (has same.0.was_open) given.rows given.shown;
        shown = first_shown IsRow q.text q.params old new given.rows first given.first;
      }

  -- the records of all rows
  pub seen_all : (old new : State) → HasTable q.table old → IsUnchanged old new → (values : Row) → values ≡ q.params → (records : List M)
      → GivesAll IsRow q.text values old new records → ShowsAll q old.now records
  seen_all old new has same values are records is =
      let given = subst (λ ps. GivesAll IsRow q.text ps old new records) are is in
      record { rows = given.rows; answer = answer old new (has same.0.was_open) given.rows given.shown; shown = given.read }

  -- a bad row among the first ones is one of the answer
  begun : (new : State) → IsKept new.now.schema q.table → (rows : List Row) → Begins q.text q.params new rows
      → Any (λ row. ¬ IsReadable row) rows → HasSpoilt q new.now
  begun new has rows begins (k, row, within, there, bad) =
      let s = new.now.schema in
      let m = means s has in
      let first = begins_as q.text q.params new new s refl (select_as (asked s) names) (command_is m) (is_plain m) m.unlisted rows begins in
      let tail = first.1.0 in
      record {
        rows = rows ++ tail;
        answer = record { command = select_as (asked s) names; means = m; read = record { typed = first.0; answer = first.1.1 } };
        spoilt = (k, row, omega (arith, length-append rows tail, within), get_or_append_left rows tail row k within ∙ there, bad);
      }

  stopped : (old new : State) → HasTable q.table old → (why : ReadFault) → FailsToAnswer IsReadable q.text q.params old new why → told why
      ≡ fails.RowOfNoOffice → HasSpoilt q old.now
  stopped old new has (fault.Database e) fails is = absurd (let e = is in cc)
  stopped old new has fault.Row (bad, same) is =
      let kept = subst (λ (db : Database). IsKept db.schema q.table) (sym same.0.now_is) (has same.0.was_open) in
      subst (HasSpoilt q) same.0.now_is (begun new kept bad.rows bad.begins bad.bad)

  -- where it stops at a row, that row shows no record
  pub spoilt : {A : Type 0} (old new : State) → HasTable q.table old → (r : Result A TableError) (values : Row) → values ≡ q.params
      → IfErr r (FailsToShowRow IsReadable q.text values old new)
      → IfErr r (λ e. e ≡ fails.RowOfNoOffice → HasSpoilt q old.now)
  spoilt old new has (Ok x) values are none = none
  spoilt old new has (Err e) values are (why, tells, answer) =
      λ is. stopped old new has why (subst (λ ps. FailsToAnswer IsReadable q.text ps old new why) are answer) (sym tells ∙ is)

-- ---- what is made of what was seen

-- a record around another, which shows the same
module _ {M N : Type 0} (k : Kept) (shown : N → Row) (keeps : N → Type 0) (sql : List ℕ) (params : Row) (part : M → N) (db : Database) where
  abbrev around : Question M
  around = question k (λ x. shown (part x)) (λ x. keeps (part x)) sql params

  abbrev within : Question N
  within = question k shown keeps sql params

  part_shown : (rows : List Row) (first : Option M) → AllZip (λ row x. IsShown shown keeps row (part x)) rows (option_to_list first)
      → AllZip (IsShown shown keeps) rows (option_to_list (option_map part first))
  part_shown [] None all = all
  part_shown (row ∷ rows) None all = absurd all
  part_shown [] (Some x) all = absurd all
  part_shown (row ∷ []) (Some x) all = all
  part_shown (row ∷ next ∷ rows) (Some x) all = absurd all.1

  -- where the first row shows a record around another, it shows the other
  pub part_first : (first : Option M) → ShowsFirst around db first → ShowsFirst within db (option_map part first)
  part_first first is = record { rows = is.rows; answer = is.answer; shown = part_shown (take 1 is.rows) first is.shown }

  -- where a row shows no record around another, it shows no such other
  pub part_spoilt : (whole : N → M) → ((n : N) → part (whole n) ≡ n) → HasSpoilt around db → HasSpoilt within db
  part_spoilt whole back is =
      let (at, row, inside, there, bad) = is.spoilt in
      record {
        rows = is.rows;
        answer = is.answer;
        spoilt = (
          at,
          row,
          inside,
          there,
          λ good. bad (whole good.0, subst (IsShown shown keeps row) (sym (back good.0)) good.1),
        );
      }

-- nothing is answered by one that fails
pub none_of : {A : Type 0} (P : A → Type 0) (e : TableError) (r : Result A TableError) → IsErrAnd r (λ x. x ≡ e) → IfOk r P
none_of P e (Ok y) is = absurd is
none_of P e (Err x) is = tt

spoilt_on : {A : Type 0} (P Q : Type 0) → (P → Q) → (e : TableError) (r : Result A TableError) → IsErrAnd r (λ x. x ≡ e)
    → (e ≡ fails.RowOfNoOffice → P) → IfErr r (λ x. x ≡ fails.RowOfNoOffice → Q)
spoilt_on P Q so e (Ok y) is spoilt = absurd is
spoilt_on P Q so e (Err x) is spoilt = λ row. so (spoilt (sym is ∙ row))

-- what gives on the error of a read has seen a row of no office where the read has
pub sees_fault : {T R : Type 0} (k : Kept) (WasSeen : Database → T → Type 0) (IsSeen : Database → R → Type 0)
    (WasSpoilt IsSpoilt : Database → Type 0) → ((db : Database) → WasSpoilt db → IsSpoilt db) → (old new : State) (e : TableError) (r : Result R TableError)
    → IsErrAnd r (λ x. x ≡ e) → Sees {R = T} k WasSeen WasSpoilt old new (Err e) → Sees k IsSeen IsSpoilt old new r
sees_fault k WasSeen IsSeen WasSpoilt IsSpoilt so old new e r is this =
    record {
      seen = λ clean has. none_of (IsSeen old.now) e r is;
      spoilt = λ clean has. spoilt_on (WasSpoilt old.now) (IsSpoilt old.now) (so old.now) e r is (this.spoilt clean has);
    }

-- what is made of what was seen
pub sees_made : {T R : Type 0} (k : Kept) (WasSeen : Database → T → Type 0) (IsSeen : Database → R → Type 0)
    (WasSpoilt IsSpoilt : Database → Type 0) (old new : State) (x : T) (y : R) → ((db : Database) → WasSeen db x → IsSeen db y)
    → Sees k WasSeen WasSpoilt old new (Ok x) → Sees k IsSeen IsSpoilt old new (Ok y)
sees_made k WasSeen IsSeen WasSpoilt IsSpoilt old new x y so this = record { seen = λ clean has. so old.now (this.seen clean has); spoilt = λ clean has. tt }

-- ---- the steps of a tariff

module _ (q : Question Step) (db : Database) (steps : List Step) (shown : ShowsAll q db steps) where
  -- steps that are those of the rows, and are a tariff's, are what was seen
  pub steps_seen : (r : Result (Option (List Step)) TableError) → IfOk r (λ found. unwrap_or found [] ≡ steps)
      → IfOk r (λ found. IfSome found IsSteps) → IfOk r (AreStepsSeen q db)
  steps_seen (Err e) are kept = tt
  steps_seen (Ok found) are kept = record { shown = subst (ShowsAll q db) (sym are) shown; are = kept }

  -- where a row of no office is told, the rows show steps that are no tariff's together
  pub steps_spoilt : {A : Type 0} (r : Result A TableError)
      → IfErr r (λ e. (e ≡ fails.Database (SqliteFailure OutOfMemory)) ⊎ ((e ≡ fails.RowOfNoOffice) × (steps ≢ []) × ¬ IsSteps steps))
      → IfErr r (λ e. e ≡ fails.RowOfNoOffice → HasSpoiltSteps q db)
  steps_spoilt (Ok x) why = tt
  steps_spoilt (Err e) (inl memory) = λ row. absurd (let is = sym memory ∙ row in cc)
  steps_spoilt (Err e) (inr (is, some, none)) = λ row. inr (steps, shown, some, none)

-- the steps of a tariff, from the rows that were read
pub sees_steps : (q : Question Step) (old new : State) (x : Vec Step Global) (steps : List Step) → steps ≡ x.items
    → (r : Result (Option (List Step)) TableError) → IfOk r (λ found. unwrap_or found [] ≡ steps) → IfOk r (λ found. IfSome found IsSteps)
    → IfErr r (λ e. (e ≡ fails.Database (SqliteFailure OutOfMemory)) ⊎ ((e ≡ fails.RowOfNoOffice) × (steps ≢ []) × ¬ IsSteps steps))
    → SeesAll q old new (Ok x) → SeesSteps q old new r
sees_steps q old new x steps same r are kept why this = record {
  seen = λ clean has. steps_seen q old.now steps (subst (ShowsAll q old.now) (sym same) (this.seen clean has)) r are kept;
  spoilt = λ clean has. steps_spoilt q old.now steps (subst (ShowsAll q old.now) (sym same) (this.seen clean has)) r why;
}

-- ---- the steps of the last day

module _ (name : List ℕ) (day : ℕ) (old mid new : State) where
  abbrev q : Question ℕ
  q = the_first_day name day

  abbrev steps : ℕ → Question Step
  steps first = the_steps_from name first

  latest_of : (first : ℕ) → mid.now ≡ old.now → ShowsFirst q old.now (Some first) → (r : Result (Option (List Step)) TableError)
      → IfOk r (AreStepsSeen (steps first) mid.now) → IfOk r (AreLatestSeen name day old.now)
  latest_of first same begun r = if_ok r (λ found seen. record
      { first = Some first; shown = begun; from = subst (λ (db : Database). AreStepsSeen (steps first) db found) same seen })

  spoilt_of : (first : ℕ) → mid.now ≡ old.now → ShowsFirst q old.now (Some first) → (r : Result (Option (List Step)) TableError)
      → IfErr r (λ e. e ≡ fails.RowOfNoOffice → HasSpoiltSteps (steps first) mid.now)
      → IfErr r (λ e. e ≡ fails.RowOfNoOffice → HasSpoiltLatest name day old.now)
  spoilt_of first same begun r = if_err r (λ e spoilt row. inr (first, begun, subst (HasSpoiltSteps (steps first)) same (spoilt row)))

  -- the steps are read after the day
  pub sees_latest : (first : ℕ) → (HasCleanDisk new → HasTable dated_steps_kept old → (mid.now ≡ old.now) × HasCleanDisk mid
      × HasTable dated_steps_kept mid) → SeesFirst q old mid (Ok (Some first)) → (r : Result (Option (List Step)) TableError)
      → SeesSteps (steps first) mid new r
      → SeesLatest name day old new r
  sees_latest first then begun r this = record {
    seen = λ clean has.
        let between = then clean has in
        latest_of first between.0 (begun.seen between.1 has) r (this.seen clean between.2);
    spoilt = λ clean has.
        let between = then clean has in
        spoilt_of first between.0 (begun.seen between.1 has) r (this.spoilt clean between.2);
  }
