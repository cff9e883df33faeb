-- What a read has seen of a database that has the table, whatever its rows are: the records that
-- the rows of an answer show, and that one of these rows shows none.
use Rattle.std.specs.Prelude.{◌≡◌, ◌≢◌, ◌⊎◌, ℕ, List, [], Option, None, Some, Any, IfErr, IfOk}
use Rattle.std.specs.Prelude.{IfSome, Result, Vec, take, unwrap_or}
use Rattle.std.specs.List.{AllZip}
use Rattle.std.specs.Option.{option_to_list}
use Rattle.std.specs.declared.alloc.Global.{Global}
use Rattle.sqlite.specs.Effect.{Database, Reads as ReadsCommand}
use Rattle.sqlite.specs.Order.{Row}
use Rattle.sqlite.specs.State.{HasCleanDisk, State}
use Rattle.sqlite_schema.specs.declared.command.Command.{Command}
use Rattle.one_table.specs.Reading.{Means}
use Rattle.tariff.specs.Steps.{IsSteps}
use Rattle.tariff.specs.declared.step.Step.{Step}
use Rattle.book_tables.specs.Kept.{Kept, dated_steps_kept}
use Rattle.book_tables.specs.reading.Questions.{Question, the_first_day, the_steps_from}
use Rattle.book_tables.specs.reading.Reading.{HasTable, IsShown, ShowsRecord}
use Rattle.book_tables.specs.declared.error.TableError.{TableError}
use Rattle.book_tables.specs.declared.error.TableError.TheVariants as fails

-- the rows are an answer of a text over the database
pub record AreAnswer (text : List ℕ) (params : Row) (db : Database) (rows : List Row)
    : Type 0 where
  pub command : Command
  pub means : Means db.schema text command
  pub read : ReadsCommand command db params rows

module _ {M : Type 0} (q : Question M) (db : Database) where
  -- the rows of an answer show these records, in this order, and there is no other row
  pub record ShowsAll (records : List M) : Type 0 where
    pub rows : List Row
    pub answer : AreAnswer q.text q.params db rows
    pub shown : AllZip (IsShown q.shown q.keeps) rows records

  -- the first row of an answer shows the record, and there is none only where there is no row
  pub record ShowsFirst (first : Option M) : Type 0 where
    pub rows : List Row
    pub answer : AreAnswer q.text q.params db rows
    pub shown : AllZip (IsShown q.shown q.keeps) (take 1 rows) (option_to_list first)

  -- a row of an answer shows no record
  pub record HasSpoilt : Type 0 where
    pub rows : List Row
    pub answer : AreAnswer q.text q.params db rows
    pub spoilt : Any (λ row. ¬ ShowsRecord q.shown q.keeps row) rows

-- While the connection has the table: what is answered was seen so, and a row of no office is
-- answered only where one was seen.
pub record Sees {R : Type 0} (k : Kept) (IsSeen : Database → R → Type 0)
    (IsSpoilt : Database → Type 0) (old new : State) (result : Result R TableError) : Type 0 where
  pub seen : HasCleanDisk new → HasTable k old → IfOk result (IsSeen old.now)
  pub spoilt : HasCleanDisk new → HasTable k old
      → IfErr result (λ e. e ≡ fails.RowOfNoOffice → IsSpoilt old.now)

-- the record of the first row is answered, or what is made of it
abbrev pub SeesFirst : {M : Type 0} → Question M → State → State → Result (Option M) TableError
    → Type 0
SeesFirst q old new result = Sees q.table (ShowsFirst q) (HasSpoilt q) old new result

abbrev pub ShowsMade : {M R : Type 0} → Question M → (Option M → R) → Database → R → Type 0
ShowsMade {M} q made db r = (first : Option M) × ShowsFirst q db first × (r ≡ made first)

abbrev pub SeesMade : {M R : Type 0} → Question M → (Option M → R) → State → State
    → Result R TableError → Type 0
SeesMade q made old new result = Sees q.table (ShowsMade q made) (HasSpoilt q) old new result

-- the records of all rows are answered
abbrev pub SeesAll : {M : Type 0} → Question M → State → State → Result (Vec M Global) TableError
    → Type 0
SeesAll q old new result =
    Sees q.table (λ db found. ShowsAll q db found.items) (HasSpoilt q) old new result

-- ---- the steps of a tariff

-- they are the steps that the rows show, in this order; none where there is no row
pub record AreStepsSeen (q : Question Step) (db : Database) (found : Option (List Step))
    : Type 0 where
  pub shown : ShowsAll q db (unwrap_or found [])
  pub are : IfSome found IsSteps

-- a row shows no step, or the rows show steps that are not those of a tariff together
abbrev pub HasSpoiltSteps : Question Step → Database → Type 0
HasSpoiltSteps q db =
    HasSpoilt q db ⊎ ((steps : List Step) × ShowsAll q db steps × (steps ≢ []) × ¬ IsSteps steps)

abbrev pub SeesSteps : Question Step → State → State → Result (Option (List Step)) TableError
    → Type 0
SeesSteps q old new result =
    Sees q.table (AreStepsSeen q) (HasSpoiltSteps q) old new result

-- the steps that begin on the day that was found
abbrev AreFrom : List ℕ → Database → Option ℕ → Option (List Step) → Type 0
AreFrom name db None found = found ≡ None
AreFrom name db (Some first) found = AreStepsSeen (the_steps_from name first) db found

-- the steps that begin on the last day until a day on which some begin
pub record AreLatestSeen (name : List ℕ) (day : ℕ) (db : Database) (found : Option (List Step))
    : Type 0 where
  pub first : Option ℕ
  pub shown : ShowsFirst (the_first_day name day) db first
  pub from : AreFrom name db first found

-- the row of that day shows none, or a row of the steps that begin on it is spoilt
abbrev pub HasSpoiltLatest : List ℕ → ℕ → Database → Type 0
HasSpoiltLatest name day db =
    HasSpoilt (the_first_day name day) db
    ⊎ ((first : ℕ) × ShowsFirst (the_first_day name day) db (Some first)
    × HasSpoiltSteps (the_steps_from name first) db)

abbrev pub SeesLatest : List ℕ → ℕ → State → State → Result (Option (List Step)) TableError
    → Type 0
SeesLatest name day old new result =
    Sees dated_steps_kept (AreLatestSeen name day) (HasSpoiltLatest name day) old new result
