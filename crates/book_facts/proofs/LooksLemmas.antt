-- What is looked up by reads, one after another.
use Rattle.std.proofs.Common.{◌≡◌, ◌∙◌, ◌⊎◌, ◌<◌, ◌+◌, ◌++◌, ◌∷◌, [], ℕ, suc, false, List, Option, Some, None, Result, Ok, Err, IfOk, IsErrAnd, add-one, ap, append_assoc, arith, drop, drop-cons, get_or, is_none, inl, inr, is_some, length, refl, subst, sym, take, true}
use Rattle.std.specs.List.{AllZip}
use Rattle.std.specs.Prelude.{IfErr}
use Rattle.std.specs.Ordering.{is_le, nat_cmp}
use Rattle.std.proofs.lemmas.Bool.{false≢true}
use Rattle.std.proofs.lemmas.Bool.Decides.{nat_tests}
use Rattle.std.proofs.lemmas.Result.{IfErr-weaker, IfOk-weaker}
use Rattle.sqlite.specs.Effect.{Database}
use Rattle.sqlite.specs.State.{HasCleanDisk, IsUnchanged, State}
use Rattle.one_table.proofs.ReadsOnlyLemmas.{fail_on}
use Rattle.sts_fields.specs.Day.{day_at}
use Rattle.tariff.specs.declared.step.Step.{Step}
use Rattle.office_rules.specs.Decision.{MeterAccount}
use Rattle.office_rules.specs.Decision.Facts.{has_other_key}
use Rattle.office_rules.specs.Office.{Office}
use Rattle.office_rules.specs.declared.decision.refusal.Refusal.{Refusal}
use Rattle.office_rules.specs.declared.decision.row_facts.RowFacts.{RowFacts}
use Rattle.office_rules.specs.declared.office.meter.Meter.{Meter}
use Rattle.office_rules.specs.declared.office.row.Row.{Row}
use Rattle.book_tables.proofs.OfficeTableLemmas.{IsInOffice, has_table, read_in_office}
use Rattle.book_tables.specs.Kept.{Kept}
use Rattle.book_tables.specs.reading.Reading.{HasAllTables, OnlyReads, ReadsTable}
use Rattle.book_tables.specs.declared.error.TableError.{TableError}
use Rattle.book_tables.specs.declared.error.TableError.TheVariants.{RowOfNoOffice}
use Rattle.book_tables.specs.reading.Questions.{the_meter}
use Rattle.book_tables.specs.reading.Seen.{Sees, ShowsFirst}
use Rattle.book_states.specs.FactsSeen.{AreRowsSeen, AreStepsSeenOn, IsAccountSeen, IsPassedBy, IsRefusedFor, IsRowSeen, IsSoldSeen, OrElse}
use Rattle.book_states.specs.Same.{IsSame}
use Rattle.book_states.specs.Spoilt.{AreRowsSpoilt, IsRowSpoilt}
use Rattle.book_facts.specs.Looking.{LooksUp, LooksUpByRules}
use Rattle.book_facts.proofs.FactsLemmas.{members_after}
use Rattle.book_facts.proofs.ListedLemmas.{take_more}
use Rattle.book_facts.proofs.PassedLemmas.{HasPassed, earlier, read_after, same_on, tables_after}

-- the error tells of a row of no office only where one that was asked for is spoilt
abbrev pub TellsSpoilt : (Database → Type 0) → State → State → TableError → Type 0
TellsSpoilt IsSpoilt old new e = HasCleanDisk new → HasAllTables old → e ≡ RowOfNoOffice → IsSpoilt old.now

-- where a read failed nothing is found
pub looks_none : {T : Type 0} {Same : State → State → Type 0} {Says : Office → T → Type 0} {AreRead : Database → T → Type 0}
    {IsSpoilt : Database → Type 0} {e : TableError} {old new : State}
    → OnlyReads {T = T} Same old new (Err e) → TellsSpoilt IsSpoilt old new e → LooksUp Same Says AreRead IsSpoilt old new (Err e)
looks_none this spoilt = record { facts = λ _ _ _ _. tt; shown = λ _ _. tt; spoilt = spoilt; reads = this }

-- a look that ends with the error of a read says nothing of the office, and only read
pub looks_on : {T U : Type 0} {Same : State → State → Type 0} {Says : Office → T → Type 0} {AreRead : Database → T → Type 0}
    {IsSpoilt : Database → Type 0} {e : TableError} {old new : State} (r : Result T TableError)
    → IsErrAnd r (λ x. x ≡ e) → OnlyReads {T = U} Same old new (Err e) → TellsSpoilt IsSpoilt old new e
    → LooksUp Same Says AreRead IsSpoilt old new r
looks_on (Ok x) is this spoilt = absurd is
looks_on (Err x) is this spoilt = looks_none (fail_on (Err x) is this) (λ clean has row. spoilt clean has (sym is ∙ row))

-- so it is where the rules may refuse what is looked up
pub by_rules_none : {T : Type 0} {Same : State → State → Type 0} {Says : Office → Result T Refusal → Type 0}
    {AreRead : Database → Result T Refusal → Type 0} {IsSpoilt : Database → Type 0} {e : TableError} {old new : State}
    → OnlyReads {T = Result T Refusal} Same old new (Err e) → TellsSpoilt IsSpoilt old new e
    → LooksUpByRules Same Says AreRead IsSpoilt old new (Err e)
by_rules_none this spoilt = record { looks = looks_none this spoilt; rules = tt }

-- the same of a result that is known to be this error
pub by_rules_on : {T U : Type 0} {Same : State → State → Type 0} {Says : Office → Result T Refusal → Type 0}
    {AreRead : Database → Result T Refusal → Type 0} {IsSpoilt : Database → Type 0} {e : TableError} {old new : State}
    (r : Result (Result T Refusal) TableError)
    → IsErrAnd r (λ x. x ≡ e) → OnlyReads {T = U} Same old new (Err e) → TellsSpoilt IsSpoilt old new e
    → LooksUpByRules Same Says AreRead IsSpoilt old new r
by_rules_on (Ok x) is this spoilt = absurd is
by_rules_on (Err x) is this spoilt = record { looks = looks_on (Err x) is this spoilt; rules = tt }

-- where a read of one table failed, a row of its answer is spoilt
pub first_spoilt : {k : Kept} (in_office : IsInOffice k) {T : Type 0} {IsSeen : Database → T → Type 0} {IsSpoilt : Database → Type 0}
    {r : Result T TableError} {old new : State}
    → Sees k IsSeen IsSpoilt old new r → HasCleanDisk new → HasAllTables old → IfErr r (λ e. e ≡ RowOfNoOffice → IsSpoilt old.now)
first_spoilt in_office {old = old} sees clean has = sees.spoilt clean (has_table in_office old has)

-- what a read of one table has seen
pub first_shown : {k : Kept} (in_office : IsInOffice k) {T : Type 0} {IsSeen : Database → T → Type 0} {IsSpoilt : Database → Type 0}
    {r : Result T TableError} {old new : State}
    → Sees k IsSeen IsSpoilt old new r → HasCleanDisk new → HasAllTables old → IfOk r (IsSeen old.now)
first_shown in_office {old = old} sees clean has = sees.seen clean (has_table in_office old has)

module _ {old mid new : State} (before : HasPassed old mid) where
  -- what it has seen after other reads, it has seen of the database from before
  pub table_shown : {k : Kept} (in_office : IsInOffice k) {T : Type 0} {IsSeen : Database → T → Type 0} {IsSpoilt : Database → Type 0} {r : Result T TableError}
      → ReadsTable k mid new r → Sees k IsSeen IsSpoilt mid new r → HasCleanDisk new → HasAllTables old → IfOk r (IsSeen old.now)
  table_shown in_office {IsSeen = IsSeen} {r = r} this sees clean has =
      let as_was = earlier old mid new before (read_in_office in_office this).survives has clean in
      subst (λ (db : Database). IfOk r (IsSeen db)) as_was.now_is (sees.seen clean (has_table in_office mid (tables_after before has)))

  -- and where it failed after other reads, a row of its answer is spoilt in the database from before
  pub table_spoilt : {k : Kept} (in_office : IsInOffice k) {T : Type 0} {IsSeen : Database → T → Type 0} {IsSpoilt : Database → Type 0} {r : Result T TableError}
      → ReadsTable k mid new r → Sees k IsSeen IsSpoilt mid new r → HasCleanDisk new → HasAllTables old
      → IfErr r (λ e. e ≡ RowOfNoOffice → IsSpoilt old.now)
  table_spoilt in_office {IsSpoilt = IsSpoilt} {r = r} this sees clean has =
      let as_was = earlier old mid new before (read_in_office in_office this).survives has clean in
      subst (λ (db : Database). IfErr r (λ e. e ≡ RowOfNoOffice → IsSpoilt db)) as_was.now_is
      (sees.spoilt clean (has_table in_office mid (tables_after before has)))

  module _ {T : Type 0} {Says : Office → T → Type 0} {AreRead : Database → T → Type 0} {IsSpoilt : Database → Type 0} {r : Result T TableError}
      (this : LooksUp IsUnchanged Says AreRead IsSpoilt mid new r) where
    -- what a look after reads gives of the database it gives of the one from before
    pub looks_shown : HasCleanDisk new → HasAllTables old → IfOk r (AreRead old.now)
    looks_shown clean has =
        let as_was = earlier old mid new before this.reads.survives has clean in
        subst (λ (db : Database). IfOk r (AreRead db)) as_was.now_is (this.shown clean (tables_after before has))

    -- and where it fails, what it asked for is spoilt in the database from before
    pub looks_spoilt : HasCleanDisk new → HasAllTables old → IfErr r (λ e. e ≡ RowOfNoOffice → IsSpoilt old.now)
    looks_spoilt clean has =
        let as_was = earlier old mid new before this.reads.survives has clean in
        subst (λ (db : Database). IfErr r (λ e. e ≡ RowOfNoOffice → IsSpoilt db)) as_was.now_is (this.spoilt clean (tables_after before has))

    -- a look after reads
    pub looks_after : LooksUp IsUnchanged Says AreRead IsSpoilt old new r
    looks_after = record {
      facts = λ clean o office members. this.facts clean o office (members_after o members before this.reads.survives clean);
      shown = looks_shown;
      spoilt = looks_spoilt;
      reads = read_after before this.reads;
    }

-- what is unchanged is the same
pub looks_same : {T : Type 0} {Says : Office → T → Type 0} {AreRead : Database → T → Type 0} {IsSpoilt : Database → Type 0}
    {r : Result T TableError} {old new : State}
    → LooksUp IsUnchanged Says AreRead IsSpoilt old new r → LooksUp IsSame Says AreRead IsSpoilt old new r
looks_same this = record { facts = this.facts; shown = this.shown; spoilt = this.spoilt; reads = same_on this.reads }

-- what implies what is said, what was seen, and what is spoilt
pub looks_weaker : {T : Type 0} {Same : State → State → Type 0} {Says Others : Office → T → Type 0}
    {AreRead AreSeen : Database → T → Type 0} {IsSpoilt HasSpoilt : Database → Type 0} {r : Result T TableError} {old new : State}
    → ((o : Office) (x : T) → Says o x → Others o x) → ((db : Database) (x : T) → AreRead db x → AreSeen db x)
    → ((db : Database) → IsSpoilt db → HasSpoilt db) → LooksUp Same Says AreRead IsSpoilt old new r → LooksUp Same Others AreSeen HasSpoilt old new r
looks_weaker {Says = Says} {Others = Others} {AreRead = AreRead} {AreSeen = AreSeen} {r = r} {old = old} says seen spoilt this = record {
  facts = λ clean o office members. IfOk-weaker r (Says o) (Others o) (says o) (this.facts clean o office members);
  shown = λ clean has. IfOk-weaker r (AreRead old.now) (AreSeen old.now) (seen old.now) (this.shown clean has);
  spoilt = λ clean has. IfErr-weaker r _ _ (λ e told row. spoilt old.now (told row)) (this.spoilt clean has);
  reads = this.reads;
}

-- what is found by the rules is so of a look-up that says less
pub by_rules_weaker : {T : Type 0} {Same : State → State → Type 0} {Says Others : Office → Result T Refusal → Type 0}
    {AreRead AreSeen : Database → Result T Refusal → Type 0} {IsSpoilt HasSpoilt : Database → Type 0}
    {r : Result (Result T Refusal) TableError} {old new : State}
    → ((o : Office) (x : Result T Refusal) → Says o x → Others o x)
    → ((db : Database) (x : Result T Refusal) → AreRead db x → AreSeen db x) → ((db : Database) → IsSpoilt db → HasSpoilt db)
    → LooksUpByRules Same Says AreRead IsSpoilt old new r → LooksUpByRules Same Others AreSeen HasSpoilt old new r
by_rules_weaker says seen spoilt this = record { looks = looks_weaker says seen spoilt this.looks; rules = this.rules }

-- and what is unchanged is the same there
pub by_rules_same : {T : Type 0} {Says : Office → Result T Refusal → Type 0} {AreRead : Database → Result T Refusal → Type 0}
    {IsSpoilt : Database → Type 0} {r : Result (Result T Refusal) TableError} {old new : State}
    → LooksUpByRules IsUnchanged Says AreRead IsSpoilt old new r → LooksUpByRules IsSame Says AreRead IsSpoilt old new r
by_rules_same this = record { looks = looks_same this.looks; rules = this.rules }

-- ---- what was seen

-- something that is there
pub there_is_one : {X : Type 0} (found : Option X) → is_none found ≡ false → (P : Option X → Type 0) → P found → (x : X) × P (Some x)
there_is_one None some P seen = absurd (false≢true (sym some))
there_is_one (Some x) some P seen = (x, seen)

-- a meter that has another key
pub there_is_other : (key : ℕ) (found : Option Meter) → has_other_key key found ≡ true → (P : Option Meter → Type 0) → P found
    → (m : Meter) × P (Some m) × (has_other_key key (Some m) ≡ true)
there_is_other key None other P seen = absurd (false≢true other)
there_is_other key (Some m) other P seen = (m, seen, other)

-- nothing that is there
pub there_is_none : {X : Type 0} (found : Option X) → is_some found ≡ false → (P : Option X → Type 0) → P found → P None
there_is_none None none P seen = seen
there_is_none (Some x) none P seen = absurd (false≢true (sym none))

-- the account of a meter with its steps
pub account_seen : (db : Database) (number : List ℕ) (moment : ℕ) (m : Meter) (steps : List Step) (account : MeterAccount)
    → ShowsFirst (the_meter number) db (Some m)
    → AreStepsSeenOn m.tariff (day_at moment) db (Some steps) → (account.meter ≡ m) × (account.steps ≡ steps)
    × IsSoldSeen number moment db account → IsAccountSeen number moment db (Some account)
account_seen db number moment m steps account there on sold = (
  subst (λ (m : Meter). ShowsFirst (the_meter number) db (Some m)) (sym sold.0) there,
  subst (λ (m : Meter). AreStepsSeenOn m.tariff (day_at moment) db (Some account.steps)) (sym sold.0)
      (subst (λ (steps : List Step). AreStepsSeenOn m.tariff (day_at moment) db (Some steps)) (sym sold.1) on),
  sold.2,
)

-- one row of an import more: the last one that is looked at, or with what is seen for the others
pub rows_seen_more : (db : Database) (rows : List Row) (i : ℕ) (row : Row) (found more : List RowFacts) (f : RowFacts) → i < length rows
    → row ≡ get_or rows i row → IsRowSeen row db f
    → (IsRefusedFor row f × (more ≡ [])) ⊎ (IsPassedBy row f × AreRowsSeen (drop (i + 1) rows) db more)
    → ((more : List RowFacts) → AreRowsSeen (drop i rows) db more → AreRowsSeen rows db (found ++ more)) → AreRowsSeen rows db (found ++ f ∷ [] ++ more)
rows_seen_more db rows i row found more f within read is rest so_far =
    let next : drop i rows ≡ row ∷ drop (i + 1) rows = (let e = drop-cons rows i row in rw (add-one, e) (ap (λ (r : Row). r ∷ drop (suc i) rows) (sym read))) in
    rw append_assoc (so_far (f ∷ more) (rw next (is, rest)))

-- a row of an import that is spoilt stops it, where nothing that differs is under the names before
module _ (db : Database) (rows : List Row) (i : ℕ) (row : Row) (within : i < length rows) (read : row ≡ get_or rows i row) where
  next_row : drop i rows ≡ row ∷ drop (i + 1) rows
  next_row = let e = drop-cons rows i row in rw (add-one, e) (ap (λ (r : Row). r ∷ drop (suc i) rows) (sym read))

  -- this row is
  pub row_spoilt : IsRowSpoilt row db → AreRowsSpoilt (drop i rows) db
  row_spoilt spoilt = rw next_row (inl spoilt)

  -- one behind it is
  pub later_spoilt : (f : RowFacts) → IsRowSeen row db f → IsPassedBy row f → AreRowsSpoilt (drop (i + 1) rows) db → AreRowsSpoilt (drop i rows) db
  later_spoilt f seen passed spoilt = rw next_row (inr (f, seen, passed, spoilt))

-- what is found at the first place, and at the second
module _ {X : Type 0} {First Second : Option X → Type 0} (x : Option X) where
  -- what is found at the first place is found at the first or else the second
  pub or_first : is_some x ≡ true → First x → OrElse First Second x
  or_first some seen = record { at_first = x; first = seen; some = λ _. refl; none = λ none. absurd (false≢true (sym none ∙ some)) }

  -- what is found at the second place is found where nothing is at the first
  pub or_second : is_some x ≡ false → First x → (found : Option X) → Second found → OrElse First Second found
  or_second none seen found second = record { at_first = x; first = seen; some = λ some. absurd (false≢true (sym none ∙ some)); none = λ _. second }

-- what was seen of the first items, and of one more
zip_push : {X Y : Type 0} (R : X → Y → Type 0) (xs : List X) (ys : List Y) (x : X) (y : Y) → AllZip R xs ys → R x y → AllZip R (xs ++ x ∷ []) (ys ++ y ∷ [])
zip_push R [] [] x y all here = (here, tt)
zip_push R [] (z ∷ zs) x y all here = absurd all
zip_push R (z ∷ zs) [] x y all here = absurd all
zip_push R (z ∷ zs) (w ∷ ws) x y all here = (all.0, zip_push R zs ws x y all.1 here)

-- what was seen of the first items and of one more was seen of those up to it
pub zip_more : {X Y : Type 0} (R : X → Y → Type 0) (xs : List X) (i : ℕ) (ys : List Y) (x : X) (y : Y) → i < length xs → x ≡ get_or xs i x
    → AllZip R (take i xs) ys → R x y → AllZip R (take (i + 1) xs) (ys ++ y ∷ [])
zip_more {X} R xs i ys x y within is all here = subst (λ (taken : List X). AllZip R taken (ys ++ y ∷ []))
    (sym (take_more xs i x within is)) (zip_push R (take i xs) ys x y all here)

-- a day that is not until another comes after it
pub after_from_not_le : (from last : ℕ) → is_le (nat_cmp from last) ≡ false → last < from
after_from_not_le from last later = grind (arith, nat_tests)
