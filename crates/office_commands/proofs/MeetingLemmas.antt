-- What is known of files that were met.
use Rattle.std.proofs.Common.{◌≡◌, ◌∙◌, ◌≤◌, ℕ, Bool, true, Option, Some, None, inl, inr, refl, sym, ap, subst, arith}
use Rattle.std.proofs.lemmas.Bool.Decides.{nat_tests}
use Rattle.std.specs.Option.{option_eq}
use Rattle.std.specs.Prelude.{◌↔◌, IsTrue, nat_eq}
use Rattle.sqlite.proofs.StateLemmas.{unchanged}
use Rattle.sqlite.specs.Files.{IsNothing, file_state, image_of, over_files}
use Rattle.sqlite.specs.Held.{Held}
use Rattle.sqlite.specs.State.{HasCleanDisk, IsLive, Opens}
use Rattle.sqlite.specs.declared.error.Error.TheVariants.{SqliteFailure}
use Rattle.sqlite.specs.declared.error.ErrorCode.TheVariants.{OutOfMemory}
use Rattle.sqlite_disk.specs.declared.Disk.{Ghosts}
use Rattle.sqlite_disk.specs.declared.Files.{Files}
use Rattle.sqlite_schema.specs.declared.schema.Schema.{Schema}
use Rattle.sqlite_store.specs.declared.store.FileStore.{FileStore}
use Rattle.sqlite_wal.specs.Files.{outcomes}
use Rattle.sqlite_wal.specs.Reads.{AreClean}
use Rattle.sqlite_wal.specs.Recovery.{Image}
use Rattle.office_rules.specs.Office.{Office, empty_office}
use Rattle.book_tables.specs.Holds.{HasOfficeOf, IsUntaken}
use Rattle.book_tables.specs.row.Rows.{present_format}
use Rattle.book_opening.specs.declared.fault.OpenFault.{OpenFault}
use Rattle.book_opening.specs.declared.fault.OpenFault.TheVariants.{Memory}
use Rattle.book_states.specs.Stores.{StoreStandsFor}
use Rattle.books.specs.Found.{FindsOffice}
use Rattle.books.specs.Opens.{OpensOver, RefusesOver}
use Rattle.books.specs.Path.{RefusesConnection, StandsIn}
use Rattle.books.specs.declared.books.Books.{Books}
use Rattle.command_line.specs.Transform.{forward_of, shipped}
use Rattle.command_line.specs.declared.transform.Shipped.{Shipped}
use Rattle.office_commands.specs.office.Opened.{OpensThere}
use Rattle.office_commands.specs.office.Visited.{IsOpened}
use Rattle.office_commands.specs.office.Vacant.{AreMeasured, IsBlank, IsConnection, IsThere, IsTooShort, IsWithout}
use Rattle.office_commands.specs.port.Places.{IsUnopenedIn}
use Rattle.office_commands.specs.port.Places.IsUnopenedIn.{refused, unread, unsalted}
use Rattle.office_commands.specs.declared.port.ports.SaltSource as source

-- files in which no office was opened were let go so where that says more
pub let_go_wider : {D S : Type 0} {disk : Ghosts D} {salts : source.Ghosts S} (few more : D → D → Type 0)
    → ((log db : D) → few log db → more log db) → (found : Files D) (fault : OpenFault)
    → IsUnopenedIn disk salts few found fault → IsUnopenedIn disk salts more found fault
let_go_wider few more wider found fault (unread before failed is gone) = unread before failed is (wider found.log found.db gone)
let_go_wider few more wider found fault (unsalted it lacks is gone) = unsalted it lacks is (wider found.log found.db gone)
let_go_wider few more wider found fault (refused left it refuses taken gone) = refused left it refuses taken (wider left.log left.db gone)

-- what is too short for a database is none yet
too_short : (image : Image) → IsTooShort image → IsNothing image
too_short image (inl empty) = inl (inl empty)
too_short image (inr (byte, brief)) = inl (inr (inl (inl brief, refl), (inl byte, inl byte)))

-- files that are too short for a database, and leave nothing else, are no database yet
pub blank_left : {D : Type 0} (g : Ghosts D) (image was : Image) (files : Files D) → was ≡ image → image_of g files ≡ was
    → ((after : Image) → outcomes g files.log files.db after → after ≡ was) × (AreClean g files.log files.db → IsTooShort was)
    → IsBlank g image files
blank_left g image was files held seen (only, short) = record {
  seen = seen ∙ held;
  nothing = λ clean. subst IsNothing held (too_short was (short clean));
  crash = λ clean after out. subst IsNothing (sym (only after out)) (too_short was (short clean));
}

module _ {D : Type 0} {g : Ghosts D} (image : Image) (conn : Held (FileStore D g)) (made : IsConnection g image conn)
    (opens : (c : Held (FileStore D g)) (o : Office) → Opens (file_state c) → IsLive (file_state c)
    → FindsOffice (file_state c).committed.trees o → StoreStandsFor (file_state c) o) where
  -- the connection stands for the office that the files stand for
  stands_here : HasCleanDisk (file_state conn) → (o : Office) → StandsIn image o → StoreStandsFor (file_state conn) o
  stands_here clean o stands =
      let at = made.connected clean in opens conn o at.opens at.live (stands (file_state conn).committed.trees at.found)

  -- so where there is none of its tables it is the empty one
  pub only_empty : ((n : ℕ) → n ≤ present_format → HasOfficeOf n conn.schema → n ≡ 0) → HasCleanDisk (file_state conn)
      → (o : Office) → StandsIn image o → o ≡ empty_office
  only_empty none clean o stands =
      let is = (stands_here clean o stands).now (made.connected clean).opens.is_open in
      is.empty (none is.format is.known is.held.1.has)

  -- where there was no memory to look at its schema, that refuses the files
  refuses_memory : RefusesConnection image Memory conn
  refuses_memory = record {
    first = conn;
    connected = made.connected;
    told = λ clean is. absurd (cc);
    named = λ clean is. absurd (cc);
    fails = λ clean differs. inl (SqliteFailure OutOfMemory, refl, inr (refl, unchanged (file_state conn) (made.connected clean).opens.is_open));
    same = λ clean. record { was_open = λ is. is; now_is = λ is. refl };
    kept = stands_here;
    rests = made.rests;
    survives = record { clean = omega arith; shield = λ k. k; counts = omega arith; limit = refl; closes = λ _ k. inl k; crash = λ _ db k. inl k };
  }

  -- want of memory refuses it: the look wrote nothing
  pub memory_refused : (fault : OpenFault) → fault ≡ Memory → RefusesConnection image fault conn
  memory_refused fault is = subst (λ (f : OpenFault). RefusesConnection image f conn) (sym is) refuses_memory

  -- an office that was opened over it, where it has some of the tables, was opened in the files
  pub opened_there : ¬ IsUntaken conn.schema → (transform : Shipped) (books : Books (FileStore D g) Shipped (over_files {g = g}) shipped)
      → OpensOver conn (forward_of transform) books → IsOpened image (OpensThere g image) transform books
  opened_there taken transform books told = record {
    opens = λ office stands clean.
        let before : HasCleanDisk (file_state conn) = omega (arith, told.survives.clean, clean) in
        told.books.opens office (stands_here before office stands) clean;
    running = told.books.running;
    writes = told.books.writes;
    tables = told.books.tables;
    finds = record {
      opened = record {
        conn = books.conn;
        seen_as = record { now = refl; committed = refl; is_open = refl; is_clean = refl; faults = refl; left = λ trees may. may; leaves = λ trees may. may };
        opens = record {
          first = conn;
          connected = made.connected;
          plain = made.plain;
          finds = told.finds;
          survives = told.survives;
          unlimited = told.survives.limit ∙ made.unlimited;
        };
      };
      taken = taken;
    };
  }

  -- and where none was, that refuses the files for the same reason
  pub refused_over : (last : Held (FileStore D g)) (fault : OpenFault) → RefusesOver (over_files {g = g}) conn last fault
      → RefusesConnection image fault last
  refused_over last fault told =
      let early : HasCleanDisk (file_state last) → HasCleanDisk (file_state conn) = λ clean. omega (arith, told.survives.clean, clean) in
      record {
        first = conn;
        connected = made.connected;
        told = λ clean is o stands. told.other clean is o (stands_here (early clean) o stands);
        named = λ clean is. (told.named clean is).1;
        fails = told.fails;
        same = told.same;
        kept = λ clean o stands. told.refused clean o (stands_here (early clean) o stands);
        rests = told.rests;
        survives = told.survives;
      }

-- a schema has none of the tables where its format is found to be 0
zero_told : (found : Option ℕ) → option_eq nat_eq found (Some 0) ≡ true → found ≡ Some 0
zero_told None h = absurd (let e = h in cc)
zero_told (Some m) h = (let e : m ≡ 0 = grind (arith, nat_tests) in ap Some e)

-- the test of the format tells whether a schema has none of the tables
pub untaken_told : (schema : Schema) (found : Option ℕ) → ((n : ℕ) → n ≤ present_format → (found ≡ Some n) ↔ HasOfficeOf n schema)
    → (test : Bool) → test ≡ option_eq nat_eq found (Some 0) → IsTrue test ↔ IsUntaken schema
untaken_told schema found exact test is = (
  λ yes. (exact 0 (omega arith)).0 (zero_told found (sym is ∙ yes)),
  λ untaken. is ∙ subst (λ (o : Option ℕ). option_eq nat_eq o (Some 0) ≡ true) (sym ((exact 0 (omega arith)).1 untaken)) refl,
)

module _ {D : Type 0} {g : Ghosts D} (image : Image) (meets : D → D → Type 0) (files : Files D)
    (measured : AreMeasured g meets files.log files.db) (same : image_of g files ≡ image) (conn : Held (FileStore D g))
    (made : IsConnection g (image_of g files) conn) where
  made_so : IsConnection g image conn
  made_so = subst (λ (i : Image). IsConnection g i conn) same made

  -- a connection over files that were met, where some of the tables are there, and where none is
  pub is_there : (it : Held (FileStore D g)) → it ≡ conn → ¬ IsUntaken conn.schema → IsThere g image meets it
  is_there it is taken = subst (λ (c : Held (FileStore D g)). IsThere g image meets c) (sym is)
      (record { files = files; measured = measured; seen = same; made = made_so; taken = taken })

  module _ (opens : (c : Held (FileStore D g)) (o : Office) → Opens (file_state c) → IsLive (file_state c)
      → FindsOffice (file_state c).committed.trees o → StoreStandsFor (file_state c) o) where
    -- none of the tables is there, so the file stands for no office but the empty one
    pub is_without : IsUntaken conn.schema × ((n : ℕ) → n ≤ present_format → HasOfficeOf n conn.schema → n ≡ 0) → IsWithout g image conn
    is_without (untaken, none) = record { made = made_so; untaken = untaken; only = only_empty image conn made_so opens none }
