-- What audits print.
use Rattle.std.proofs.Common.{◌≡◌, Bool, true, false, [], length, Option, Some, Result, Ok, Err, ap, inl, inr, subst}
use Rattle.std.specs.Prelude.{◌≢◌, ◌⊎◌, ◌==◌, IfErr, IsTrue}
use Rattle.std.specs.Bool.{MatchBool}
use Rattle.std.proofs.Math.Logic.{∥∥₁_elim}
use denote.Struct.Props.{props}
use Rattle.sqlite_disk.specs.declared.Disk.{Ghosts}
use Rattle.sqlite_wal.specs.Recovery.{Image}
use Rattle.audit.specs.Fails.{IsFailure}
use Rattle.audit.specs.declared.audited.Audited.{Audited}
use Rattle.audit_rows.specs.declared.finding.AuditFault.{AuditFault}
use Rattle.audit_rows.specs.declared.finding.AuditFault.TheVariants.{Failed, Found, NoOffice}
use Rattle.sts_fields.specs.Text.{Text}
use Rattle.sts_token.specs.Token.{BlockFunction}
use Rattle.office_commands.specs.commands.Audited.{IsAudited, TellsAudit}
use Rattle.office_commands.specs.commands.Audited.IsAudited.{absent, looked, unopened, vacant}
use Rattle.office_commands.specs.port.Places.{Place}
use Rattle.office_commands.specs.print.AuditLines.{no_office_line, sound_line}
use Rattle.program_laws.specs.Sound.{EndsSound}
use Rattle.vend_ports.specs.declared.command_end.CommandEnd.{CommandEnd}
use Rattle.vend_ports.specs.declared.command_end.CommandEnd.TheVariants.{Done, Refused}
use Rattle.vend_ports.specs.print.Told.{IsTold, Outputs}
use Rattle.law_witnesses.specs.Printed.{HasPrinted, IsCounted}
use Rattle.law_witnesses.proofs.FileLemmas.{clean_files}
use Rattle.law_witnesses.proofs.PrintLemmas.{printed_is, taken_whole}

-- an audit that ended as done
pub at_end : {place : Place} {given : Option BlockFunction} {o : Outputs} {end : CommandEnd} → IsAudited place given o end → end ≡ Done
    → IsAudited place given o Done
at_end {place} {given} {o} {end} audited is = let Ends : CommandEnd → Type 0 = λ e. IsAudited place given o e in subst Ends is audited

-- what it printed is what it counted
pub counted_text : {D : Type 0} {g : Ghosts D} {image : Image} {LetsGo : (whole : Bool) → D → D → Type 0} {given : Option BlockFunction}
    {o : Outputs} (printed : Text) → EndsSound g image LetsGo given o → ((it : D) → IsTrue (g.is_clean it)) → o.old.held ≡ Some []
    → o.old.failed ≡ false → o.new.failed ≡ false → o.new.held ≡ Some printed
    → (audited : Audited) × IsCounted image given audited × (printed ≡ sound_line audited)
counted_text {o = o} printed ends all empty fresh whole held =
    let passes = ends.passes (clean_files all ends.last) in (
      ends.audited,
      record { db = passes.0; found = passes.1; sound = passes.3; stands = passes.4 },
      taken_whole o.old o.new (sound_line ends.audited) printed ends.printed empty fresh whole held,
    )

-- a text that is not empty is some text
pub some_text : (empty : Bool) (text : Text) → empty ≡ (length text == 0) → empty ≡ false → text ≢ []
some_text empty text is some none = let zero : (length text == 0) ≡ true = ap (λ (t : Text). length t == 0) none in absurd (cc)

module _ {Did : Outputs → Type 0} {Of : Type 0} (printed : Text) (it : HasPrinted Did printed) (end : CommandEnd) (of : ∥ Of ∥₁)
    (some : printed ≢ []) where
  -- what an audit that found nothing broken prints, if anything
  abbrev PrintsCount : Type 0
  PrintsCount = ((audited : Audited) × (printed ≡ sound_line audited)) ⊎ (printed ≡ no_office_line)

  told_counted : (none : Bool) (audited : Audited)
      → MatchBool none (IsTold it.o no_office_line [] Refused end) (IsTold it.o (sound_line audited) [] Done end) → PrintsCount
  told_counted true audited told = inr (printed_is printed no_office_line it told.0)
  told_counted false audited told = inl (audited, printed_is printed (sound_line audited) it told.0)

  -- an audit that found nothing broken printed what it counted, or that it found no office, if anything
  told_count : (answer : Result Audited AuditFault) → TellsAudit answer it.o end → (Of → IfErr answer IsFailure) → PrintsCount
  told_count (Ok audited) told honest = told_counted (audited.format == 0) audited told
  told_count (Err (Found f)) told honest = let no : IsProp ⊥ = hlevel props in absurd (∥∥₁_elim of no honest)
  told_count (Err NoOffice) told honest = absurd (some (printed_is printed [] it told.0))
  told_count (Err (Failed e)) told honest = absurd (some (printed_is printed [] it told.0))

  -- so does one of files whose answer tells nothing of an office
  pub count_of : {place : Place} {given : Option BlockFunction} → IsAudited place given it.o end
      → ((answer : Result Audited AuditFault) → place.audits given answer → Of → IfErr answer IsFailure)
      → ((audited : Audited) × (printed ≡ sound_line audited)) ⊎ (printed ≡ no_office_line)
  count_of (absent misses told) honest = absurd (some (printed_is printed [] it told.0))
  count_of (unopened fault refuses told) honest = absurd (some (printed_is printed [] it told.0))
  count_of (vacant none told) honest = inr (printed_is printed no_office_line it told.0)
  count_of (looked answer meets audits told) honest = told_count answer told (honest answer audits)
