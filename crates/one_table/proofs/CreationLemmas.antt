-- What the text of a CREATE TABLE means in any schema, and what running it makes.
use Rattle.std.proofs.Common.{◌≡◌, ℕ, Bool, true, false, not, ◌&&◌, ◌==◌, cond, List, [], ◌∷◌, ◌++◌, length, ◌-◌, slice_range, is_some, Option, None, Result, Ok, Err, refl, sym, ap, subst, ◌∙◌, inl, inr, arith}
use Rattle.std.proofs.lemmas.Bool.{cases_Bool, and_parts, eqb-true}
use Rattle.std.proofs.Math.Seq.{take-length}
use Rattle.sqlite_ast.specs.declared.Statement.{Statement}
use Rattle.sqlite_ast.specs.declared.Statement.TheVariants as written
use Rattle.sqlite_ast.specs.declared.CreateTable.{CreateTable as Definition}
use Rattle.sqlite_syntax.specs.declared.statement.Parsed.{Parsed}
use Rattle.sqlite_schema.specs.declared.command.Command.{Command}
use Rattle.sqlite_schema.specs.declared.command.Command.TheVariants.{CreateTable, Nothing}
use Rattle.std.specs.Option.{option_or}
use Rattle.sqlite_schema.specs.Names.{table_named, view_named, index_named}
use Rattle.sqlite_schema.specs.declared.schema.Schema.{Schema}
use Rattle.sqlite_schema.specs.declared.schema.Table.{Table}
use Rattle.sqlite_resolve.specs.declared.compiled.Compiled.{Compiled}
use Rattle.sqlite_resolve.specs.declared.error.CompileError.TheVariants.{Exists, Misuse, Unsupported}
use Rattle.sqlite_resolve.specs.Lowering.{Checked, and_then}
use Rattle.sqlite_resolve.specs.Scope.{Name}
use Rattle.sqlite_resolve.specs.Compile.{compiled, planned, meaning, returning, command, timed, create_table, creates, is_attached, is_reserved, first, with_command, table_defined_by}
use Rattle.sqlite_resolve.specs.Define as define
use Rattle.sqlite.specs.Listing.{understood, reads_listing, listing_schema, if_select, is_select}
use Rattle.sqlite.specs.State.{State, Runs, Writes, Executes, ExecutesIn, shows_rows, mode_of, text_of}
use Rattle.sqlite.specs.Effect.{Database, IsDatabase}
use Rattle.sqlite.specs.Does.{Tally, MakesTable as Creates, MakesSequence, lacks_sequence, sequence_text, Does, no_rows}
use Rattle.sqlite.specs.Rows.{Then, Gives}
use Rattle.sqlite.specs.declared.run.Mode.{Mode}
use Rattle.sqlite_trees.specs.Tree.{Trees}
use Rattle.sqlite_rules.proofs.ListLemmas.{all_has, all_from, has_left, has_right}
use Rattle.sqlite_catalog.specs.Calls.{CreatesTable}
use Rattle.sqlite.specs.Clock.{timed as timed_at}
use Rattle.sqlite.proofs.Callers.{through}
use Rattle.sqlite_catalog.specs.Change.{created, is_used, KeepsRows}
use Rattle.sqlite_tied.specs.Compute.{everything}
use Rattle.sqlite_value.specs.Order.{Row}
use Rattle.one_table.specs.Making.{is_creation, is_creation_as, counters, with_counters, MakesTable}

-- without IF NOT EXISTS, a name that is taken is refused
anew_by : (reserved other same is_new : Bool) → cond reserved (Err Misuse)
    (cond other (Err Exists) (cond same (cond false (Ok false) (Err Exists)) (Ok true))) ≡ Ok is_new → is_new ≡ true
anew_by true other same is_new h = absurd (cc)
anew_by false true same is_new h = absurd (cc)
anew_by false false true is_new h = absurd (cc)
anew_by false false false is_new h = cc

anew : (name : Name) (same other : Option ℕ) (is_new : Bool) → creates false name same other ≡ Ok is_new → is_new ≡ true
unfolding creates
anew name same other is_new h = anew_by (is_reserved name) (is_some other) (is_some same) is_new h

makes_by : (attached : Bool) (tried : Checked Bool) (defined : Checked Table) (test : Table → Bool) (k : Command) → ((b : Bool) → tried ≡ Ok b → b ≡ true)
    → cond attached (Err Unsupported) (and_then tried (λ is_new. cond is_new
    (and_then defined (λ t. cond (test t) (Ok CreateTable) (Err Unsupported))) (Ok Nothing))) ≡ Ok k → k ≡ CreateTable
makes_by true tried defined test k new h = absurd (cc)
makes_by false (Err e) defined test k new h = absurd (cc)
makes_by false (Ok false) defined test k new h = absurd (let e = new false refl in cc)
makes_by false (Ok true) (Err e) test k new h = absurd (cc)
makes_by false (Ok true) (Ok t) test k new h = elim (cases_Bool (test t))
    [ inl passes ↦ let e = rw passes at h in cc | inr fails ↦ absurd (let e = rw fails at h in cc) ]

makes_table : (s : Schema) (formats : List Name) (def : Definition) (k : Command) → def.if_missing ≡ false → create_table s formats def ≡ Ok k → k ≡ CreateTable
unfolding create_table
makes_table s formats def k new h =
    makes_by (is_attached s def.name) (creates def.if_missing def.name (option_or (table_named s def.name) (view_named s def.name))
    (index_named s def.name)) (define.table formats def)
    (λ t. length t.computed == length t.stamps.places && not def.resolves) k
    (λ b tried. anew def.name (option_or (table_named s def.name) (view_named s def.name)) (index_named s def.name) b (rw new at tried)) h

-- the command of such a text, which shows no rows and reads no time
pub record IsMade (sql : List ℕ) (c : Compiled) : Type 0 where
  pub command : c.command ≡ CreateTable
  pub returning : c.returning ≡ None
  pub formats : c.formats ≡ []
  pub whole : text_of sql c ≡ sql

abbrev head : Statement → List Name → List Name → ℕ → ℕ → ℕ → Parsed
head st names formats start end tail = record { statement = st; names = names; formats = formats; start = start; end = end; tail = tail }

command_by : (s : Schema) (sql : List ℕ) (p : Parsed) (made : Checked Command) (c : Compiled)
    → ((k : Command) → made ≡ Ok k → k ≡ CreateTable) → slice_range sql p.start p.end ≡ sql
    → and_then (and_then (and_then made (λ k. Ok (k, None))) (λ found. Ok ([], found))) (λ plan. Ok (with_command p plan)) ≡ Ok c → IsMade sql c
command_by s sql p (Err e) c is whole h = absurd (cc)
command_by s sql p (Ok k) c is whole h =
    let same : with_command p ([], (k, None)) ≡ c = cc in
    record {
      command = ap (λ (m : Compiled). m.command) (sym same) ∙ is k refl;
      returning = ap (λ (m : Compiled). m.returning) (sym same);
      formats = ap (λ (m : Compiled). m.formats) (sym same);
      whole = ap (text_of sql) (sym same) ∙ whole;
    }

missing_not : (b : Bool) → not b ≡ true → b ≡ false
missing_not true h = cc
missing_not false h = refl

take_whole : (sql : List ℕ) → slice_range sql 0 (length sql) ≡ sql
take_whole sql = let none : length sql - 0 ≡ length sql = omega arith in rw none (take-length sql)

planned_as : (s : Schema) (sql : List ℕ) (st : Statement) (names formats : List Name) (start end tail : ℕ) (c : Compiled)
    → is_creation_as sql (Ok (head st names formats start end tail)) ≡ true
    → and_then (planned s (head st names formats start end tail)) (λ plan. Ok (with_command (head st names formats start end tail) plan)) ≡ Ok c
    → IsMade sql c
unfolding planned timed meaning returning command
planned_as s sql (written.CreateTable def) names formats start end tail c is h =
    let parts = and_parts _ _ is in
    let places = and_parts _ _ parts.0 in
    let from : start ≡ 0 = eqb-true start 0 places.1 in
    let to : end ≡ length sql = eqb-true end (length sql) parts.1 in
    command_by s sql (head (written.CreateTable def) names formats start end tail) (create_table s formats def) c
    (λ k. makes_table s formats def k (missing_not def.if_missing places.0)) (rw (from, to) (take_whole sql)) h
planned_as s sql _ names formats start end tail c is h = absurd (cc)

-- what such a text compiles to
pub compiled_as : (s : Schema) (sql : List ℕ) (c : Compiled) → is_creation sql ≡ true → compiled s sql ≡ Ok c → IsMade sql c
unfolding compiled is_creation
compiled_as s sql c is h = by (first sql) is h
  where
    by : (r : Checked Parsed) → is_creation_as sql r ≡ true → and_then r (λ p. and_then (planned s p) (λ plan. Ok (with_command p plan))) ≡ Ok c → IsMade sql c
    by (Err e) is h = absurd (cc)
    by (Ok p) is h = planned_as s sql p.statement p.names p.formats p.start p.end p.tail c is h

selected : (r : Checked Compiled) (c : Compiled) → if_select r ≡ Ok c → (r ≡ Ok c) × (is_select c.command ≡ true)
selected (Err e) c h = absurd (cc)
selected (Ok m) c h = elim (cases_Bool (is_select m.command)) [
  | inl is ↦ let same : m ≡ c = (let e = rw is at h in cc) in (ap Ok same, ap (λ (k : Compiled). is_select k.command) (sym same) ∙ is)
  | inr not ↦ absurd (let e = rw not at h in cc)
]

-- what such a text means in any schema
pub understood_as : (s : Schema) (sql : List ℕ) (c : Compiled) → is_creation sql ≡ true → understood s sql ≡ Ok c → IsMade sql c
unfolding understood
understood_as s sql c is h = elim (cases_Bool (reads_listing s sql)) [
  | inl listing ↦
      let chosen = selected (compiled listing_schema sql) c (rw listing at h) in
      let made = compiled_as listing_schema sql c is chosen.0 in
      absurd (let e = rw made.command at chosen.1 in cc)
  | inr plain ↦ compiled_as s sql c is (rw plain at h)
]

sequence_defined : table_defined_by sequence_text ≡ Ok counters
unfolding everything
sequence_defined = refl

same_ok : {A E : Type 0} (a b : A) → ◌≡◌ {A = Result A E} (Ok a) (Ok b) → a ≡ b
same_ok a b h = cc

if_true : {A : Type 0} (b : Bool) (x y : A) → b ≡ true → cond b x y ≡ x
if_true b x y h = rw h

if_false : {A : Type 0} (b : Bool) (x y : A) → b ≡ false → cond b x y ≡ y
if_false b x y h = rw h

rows_on : (tables more : List Table) (t : Table) (db after : Trees) → more ≡ tables ++ t ∷ [] → KeepsRows more db after
    → KeepsRows tables db after × (after t.tree ≡ db t.tree)
rows_on tables more t db after is kept =
    let all = rw is at kept in (
      all_from (λ u. after u.tree ≡ db u.tree) tables (λ u h. all_has (λ u. after u.tree ≡ db u.tree) (tables ++ t ∷ []) u all (has_left tables (t ∷ []) u h)),
      all_has (λ u. after u.tree ≡ db u.tree) (tables ++ t ∷ []) t all (has_right tables (t ∷ []) t (inl refl)),
    )

-- the counters that others lack are made too
counters_made : (mid b : Database) → MakesSequence mid (Ok b) → (b.schema ≡ with_counters mid.schema) × KeepsRows mid.schema.tables mid.trees b.trees
counters_made mid b h = elim (cases_Bool (lacks_sequence mid.schema)) [
  | inl lacks ↦
      let c : CreatesTable mid.schema sequence_text mid.trees b.schema b.trees = rw lacks at h in
      let same : c.table ≡ counters = same_ok c.table counters (sym c.defined ∙ sequence_defined) in
      (c.is ∙ ap (created mid.schema) same ∙ sym (if_true _ (created mid.schema counters) mid.schema lacks), c.others)
  | inr whole ↦
      let same : b ≡ mid = same_ok b mid (rw whole at h) in (
        ap (λ (d : Database). d.schema) same ∙ sym (if_false _ (created mid.schema counters) mid.schema whole),
        all_from (λ t. b.trees t.tree ≡ mid.trees t.tree) mid.schema.tables (λ t h. ap (λ (d : Database). d.trees t.tree) same),
      )
]

rows_after : (tables : List Table) (db mid after : Trees) → KeepsRows tables db mid → KeepsRows tables mid after → KeepsRows tables db after
rows_after tables db mid after p q =
    all_from (λ u. after u.tree ≡ db u.tree) tables (λ u h. all_has (λ u. after u.tree ≡ mid u.tree) tables u q h
    ∙ all_has (λ u. mid u.tree ≡ db u.tree) tables u p h)

made_by : (sql : List ℕ) (a b : Database) (t : Table) → table_defined_by sql ≡ Ok t → IsDatabase b
    → Then (Creates sql a) MakesSequence (Ok b) → MakesTable t a b
made_by sql a b t defined sound h =
    let it = through (Creates sql a) MakesSequence b h in
    let c : CreatesTable a.schema sql a.trees it.0.schema it.0.trees = it.1 in
    let counted = counters_made it.0 b it.2 in
    let same : c.table ≡ t = same_ok c.table t (sym c.defined ∙ defined) in
    let schema : it.0.schema ≡ created a.schema t = c.is ∙ ap (created a.schema) same in
    let rows = rows_on a.schema.tables it.0.schema.tables _ it.0.trees b.trees (ap (λ (s : Schema). s.tables) schema) counted.1 in
    record {
      free = ap (λ (u : Table). is_used a.schema u.name) (sym same) ∙ c.free;
      schema = counted.0 ∙ ap with_counters schema;
      empty = rows.1 ∙ c.empty;
      rows = rows_after a.schema.tables a.trees it.0.trees b.trees c.others rows.0;
      sound = sound;
    }

done_by : (limit : Option ℕ) (mode : Mode) (params : Row) (a b : Database) (sql : List ℕ) (tally : Tally)
    → Does limit mode params a sql None CreateTable (Ok (tally, b)) → Then (Creates sql a) MakesSequence (Ok b)
done_by limit mode params a b sql tally h =
    let it = through (Then (Creates sql a) MakesSequence) (λ after. Gives (no_rows mode.in_doubt, after)) (tally, b) h in
    let same : b ≡ it.0 = ap (λ (p : Tally × Database). p.1) (same_ok (tally, b) (no_rows mode.in_doubt, it.0) it.2) in
    subst (λ d. Then (Creates sql a) MakesSequence (Ok d)) (sym same) it.1

-- running such a text makes the table that it defines
pub makes_as : (old new : State) (sql : List ℕ) (c : Compiled) (params : Row) (count : ℕ) (t : Table) → IsMade sql c → table_defined_by sql ≡ Ok t
    → Runs old new c.returning c.command (text_of sql c) params count → MakesTable t old.now new.now
makes_as old new sql c params count t is defined ran =
    let w : Writes old new None CreateTable sql params count = rw (is.returning, is.command, is.whole) at ran in
    made_by sql old.now new.now t defined w.sound (done_by old.step_limit (mode_of old) params old.now new.now sql w.tally w.changed)

-- a text that creates a table, once executed, has made the table that it defines
pub executes_as : (old new : State) (sql : List ℕ) (params : Row) (count : ℕ) (t : Table) → is_creation sql ≡ true → table_defined_by sql
    ≡ Ok t → Executes sql params old new (Ok count) → MakesTable t old.now new.now
unfolding ExecutesIn
executes_as old new sql params count t is defined h =
    let made = understood_as old.now.schema sql h.0 is h.1.is in
    let full = timed_at params h.0.formats h.1.now in
    let ran : Runs old new h.0.returning h.0.command (text_of sql h.0) full count = elim (cases_Bool (shows_rows false h.0)) [
      | inl shows ↦ absurd (let e = (rw shows at h.2).0 in cc)
      | inr runs ↦ rw runs at h.2
    ] in
    makes_as old new sql h.0 full count t made defined ran
