-- What an audit shows where it ends as done.
use Rattle.std.proofs.Common.{◌≡◌, ◌==◌, ◌≤◌, ℕ, zero, suc, Bool, true, false, [], Option, Result, Ok, Err, arith, refl, subst, sym}
use Rattle.std.specs.Bool.{MatchBool}
use Rattle.audit.specs.declared.audited.Audited.{Audited}
use Rattle.audit_rows.specs.declared.finding.AuditFault.{AuditFault}
use Rattle.audit_rows.specs.declared.finding.AuditFault.TheVariants.{Failed, Found, NoOffice}
use Rattle.books.specs.Path.{MayFind}
use Rattle.sqlite.specs.Files.{file_state}
use Rattle.sqlite.specs.State.{HasCleanDisk}
use Rattle.sqlite_disk.specs.declared.Disk.{Ghosts}
use Rattle.sqlite_wal.specs.Recovery.{Image}
use Rattle.sts_token.specs.Token.{BlockFunction}
use Rattle.program_laws.specs.Sound.{EndsSound}
use Rattle.office_commands.specs.commands.Audited.{IsAudited}
use Rattle.office_commands.specs.commands.Audited.IsAudited.{absent, looked, unopened, vacant as audit_vacant}
use Rattle.office_commands.specs.office.Audits.{AuditsIn}
use Rattle.office_commands.specs.port.Places.{Place}
use Rattle.vend_ports.specs.declared.command_end.CommandEnd.TheVariants as how
use Rattle.office_commands.specs.print.AuditLines.{no_office_line, sound_line}
use Rattle.vend_ports.specs.print.Told.{IsTold, Outputs, Takes}

-- a format that is not 0 has tables
has_tables : (format : ℕ) → (format == 0) ≡ false → 1 ≤ format
has_tables zero is = absurd (cc)
has_tables (suc n) is = omega arith

-- what was counted was told as sound, of tables of some format
counted_sound : (none : Bool) (audited : Audited) (o : Outputs)
    → MatchBool none (IsTold o no_office_line [] how.Refused how.Done) (IsTold o (sound_line audited) [] how.Done how.Done)
    → (none ≡ false) × Takes o.old o.new (sound_line audited)
counted_sound true audited o told = absurd (let end = told.2 in cc)
counted_sound false audited o told = (refl, told.0)

-- what ends as done was sound
pub ends_sound : {D : Type 0} (g : Ghosts D) (image : Image) (LetsGo : (whole : Bool) → D → D → Type 0) (given : Option BlockFunction) (place : Place) (o : Outputs)
    → ((answer : Result Audited AuditFault) → place.audits given answer → AuditsIn g image LetsGo given answer) → IsAudited place given o how.Done
    → EndsSound g image LetsGo given o
ends_sound g image LetsGo given place o so (absent misses told) = absurd (let end = told.2 in cc)
ends_sound g image LetsGo given place o so (unopened fault refuses told) = absurd (let end = told.2 in cc)
ends_sound g image LetsGo given place o so (audit_vacant vacant told) = absurd (let end = told.2 in cc)
ends_sound g image LetsGo given place o so (looked (Err (Found finding)) meets audits told) = absurd (let end = told.2.2 in cc)
ends_sound g image LetsGo given place o so (looked (Err NoOffice) meets audits told) = absurd (let end = told.2 in cc)
ends_sound g image LetsGo given place o so (looked (Err (Failed error)) meets audits told) = absurd (let end = told.2 in cc)
ends_sound g image LetsGo given place o so (looked (Ok audited) meets audits told) =
    let it = so (Ok audited) audits in
    let counted = counted_sound (audited.format == 0) audited o told in
    record {
      audited = audited;
      some = has_tables audited.format counted.0;
      printed = counted.1;
      last = it.last;
      closed = it.closed;
      passes = λ clean.
          let before : HasCleanDisk (file_state it.first) = omega (arith, it.audited.survives.clean, clean) in
          let at = it.connected before in
          let found = subst (λ db. MayFind image db.trees) (sym at.opens.clean) at.found in
          let passed = it.audited.passes clean in
          ((file_state it.first).now, found, at.in_order, passed.0, passed.1);
    }
