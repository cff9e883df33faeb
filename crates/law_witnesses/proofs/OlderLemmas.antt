-- Files of an older format, and the office that they stand for.
use Rattle.std.proofs.Common.{◌≡◌, ◌∙◌, ◌==◌, ℕ, Bool, true, false, List, [], Option, Result, Ok, Err, ap, refl, sym}
use Rattle.std.specs.Prelude.{IsTrue}
use Rattle.std.specs.Bool.{MatchBool}
use Rattle.std.proofs.Math.Logic.{∥∥₁_map}
use Rattle.sqlite.proofs.FileLemmas.{is_something}
use Rattle.sqlite.specs.Closing.{HoldsAlone}
use Rattle.sqlite.specs.Effect.{Database}
use Rattle.sqlite.specs.Files.{HoldsDatabase, file_state, image_of}
use Rattle.sqlite_disk.specs.declared.Disk as disk
use Rattle.sqlite_disk.specs.declared.Files.{Files}
use Rattle.sqlite_trees.specs.Tree.{Trees}
use Rattle.sqlite_wal.specs.Recovery.{Image}
use Rattle.audit.specs.declared.audited.Audited.{Audited}
use Rattle.audit_rows.specs.declared.finding.AuditFault.{AuditFault}
use Rattle.audit_rows.specs.declared.finding.AuditFault.TheVariants.{Failed, Found, NoOffice}
use Rattle.book_states.specs.Stores.{RecoversTo}
use Rattle.books.specs.Path.{StandsIn}
use Rattle.office_commands.specs.commands.Audited.{IsAudited}
use Rattle.office_commands.specs.commands.Audited.IsAudited.{absent, looked, unopened, vacant as audit_vacant}
use Rattle.office_commands.specs.office.Audits.{AuditsIn}
use Rattle.office_commands.specs.port.Places.{Place}
use Rattle.office_commands.specs.print.AuditLines.{no_office_line, sound_line}
use Rattle.office_rules.specs.Office.{Office}
use Rattle.program_laws.specs.runs.Files.{AreFoundSo}
use Rattle.program_laws.specs.runs.Steps.{IsOf, IsOfOffice}
use Rattle.sts_token.specs.Token.{BlockFunction}
use Rattle.vend_ports.specs.declared.command_end.CommandEnd.{CommandEnd}
use Rattle.vend_ports.specs.declared.command_end.CommandEnd.TheVariants as how
use Rattle.vend_ports.specs.print.Told.{IsTold, Outputs, Takes}
use Rattle.law_witnesses.specs.Older.{HoldOne, HoldsOffice, IsAuditedAs}
use Rattle.law_witnesses.specs.Printed.{HasPrinted}
use Rattle.law_witnesses.proofs.AuditLemmas.{at_end}
use Rattle.law_witnesses.proofs.FileLemmas.{clean_files}
use Rattle.law_witnesses.proofs.PrintLemmas.{printed_is}

-- files that read the same hold the same
pub reads_same : {M : Type 0} (g : disk.Ghosts M) (some files : Files M) → g.seen some.log ≡ g.seen files.log → g.seen some.db ≡ g.seen files.db
    → image_of g some ≡ image_of g files
reads_same g some files logs dbs =
    let with_log : List ℕ → Image = λ log. record { log = log; db = g.seen some.db } in
    let with_db : List ℕ → Image = λ db. record { log = g.seen files.log; db = db } in
    ap with_log logs ∙ ap with_db dbs

-- ---- what an audit found

-- the count that was told
counted : (none : Bool) (audited : Audited) (o : Outputs)
    → MatchBool none (IsTold o no_office_line [] how.Refused how.Done) (IsTold o (sound_line audited) [] how.Done how.Done)
    → Takes o.old o.new (sound_line audited)
counted true audited o told = absurd (let end = told.2 in cc)
counted false audited o told = told.0

module _ {D : Type 0} {g : disk.Ghosts D} (all : (it : D) → IsTrue (g.is_clean it)) where
  -- an audit of files that ended as done counted an office, for which a database in them stands
  found_office : (image : Image) (LetsGo : (whole : Bool) → D → D → Type 0) (given : Option BlockFunction) (place : Place) (o : Outputs)
      → ((answer : Result Audited AuditFault) → place.audits given answer → AuditsIn g image LetsGo given answer)
      → IsAudited place given o how.Done → (audited : Audited) × Takes o.old o.new (sound_line audited) × HoldsOffice image
  found_office image LetsGo given place o so (absent misses told) = absurd (let end = told.2 in cc)
  found_office image LetsGo given place o so (unopened fault refuses told) = absurd (let end = told.2 in cc)
  found_office image LetsGo given place o so (audit_vacant vacant told) = absurd (let end = told.2 in cc)
  found_office image LetsGo given place o so (looked (Err (Found finding)) meets audits told) = absurd (let end = told.2.2 in cc)
  found_office image LetsGo given place o so (looked (Err NoOffice) meets audits told) = absurd (let end = told.2 in cc)
  found_office image LetsGo given place o so (looked (Err (Failed error)) meets audits told) = absurd (let end = told.2 in cc)
  found_office image LetsGo given place o so (looked (Ok audited) meets audits told) =
      let it = so (Ok audited) audits in
      let at = it.connected (clean_files all it.first) in
      let passed = it.audited.passes (clean_files all it.last) in
      let now = (file_state it.first).now in
      let same : (file_state it.first).committed.trees ≡ now.trees = sym (ap (λ (db : Database). db.trees) at.opens.clean) in (
        audited,
        counted (audited.format == 0) audited o told,
        record {
          office = passed.0.office;
          is = passed.0.is;
          holds = λ trees held. (now, (at.live at.opens.is_open).0, sym (at.found.holds trees held) ∙ same, passed.1);
        },
      )

  -- so what it printed is that count
  pub audited_as : (image : Image) (LetsGo : (whole : Bool) → D → D → Type 0) (given : Option BlockFunction) (place : Place) (end : CommandEnd)
      (printed : List ℕ) → ((answer : Result Audited AuditFault) → place.audits given answer → AuditsIn g image LetsGo given answer)
      → (it : HasPrinted (λ o. IsAudited place given o end) printed) → end ≡ how.Done → IsAuditedAs image printed
  audited_as image LetsGo given place end printed so it done =
      let found = found_office image LetsGo given place it.o so (at_end it.did done) in
      record { audited = found.0; text_is = printed_is printed (sound_line found.0) it found.1; stands = found.2 }

-- ---- runs begin with it

-- files that hold a database of an office begin with that office, before any run
begins_with : ((image : Image) (trees : Trees) (o : Office) → HoldsDatabase image trees → RecoversTo trees o → StandsIn image o) → (image : Image)
    (trees : Trees) (o : Office) → RecoversTo trees o → HoldsAlone image trees → IsOf o [] image
begins_with stands image trees o there alone =
    let Of : Type 0 = IsOfOffice o [] image in
    let of : HoldsDatabase image trees → Of = λ held. record {
      office = o;
      stands = stands image trees o held there;
      lead = refl;
      begins = λ nothing. absurd (is_something image trees held nothing);
    } in
    ∥∥₁_map alone.both of

-- so they do after a crash
pub found_with : ((image : Image) (trees : Trees) (o : Office) → HoldsDatabase image trees → RecoversTo trees o → StandsIn image o)
    → {M : Type 0} (g : disk.Ghosts M) (files : Files M) (hold : HoldOne g files) (o : Office) → RecoversTo hold.trees o
    → AreFoundSo g files (IsOf o [])
found_with stands g files hold o there = (
  begins_with stands _ hold.trees o there hold.seen,
  λ image may. begins_with stands image hold.trees o there (hold.left image may),
)
