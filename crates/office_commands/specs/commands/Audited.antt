-- What `audit` prints of the file that it is asked to look at.
use Rattle.std.specs.Prelude.{◌==◌, List, [], Option, Result, Ok, Err}
use Rattle.std.specs.Bool.{MatchBool}
use Rattle.audit.specs.declared.audited.Audited.{Audited}
use Rattle.audit_rows.specs.declared.finding.AuditFault.{AuditFault}
use Rattle.audit_rows.specs.declared.finding.AuditFault.TheVariants.{Failed, Found, NoOffice}
use Rattle.book_opening.specs.Opening.{fault_of}
use Rattle.book_opening.specs.declared.fault.OpenFault.{OpenFault}
use Rattle.book_opening.specs.declared.fault.OpenFault.TheVariants.{NotAnOffice}
use Rattle.sts_fields.specs.Text.{Text}
use Rattle.sts_token.specs.Token.{BlockFunction}
use Rattle.office_commands.specs.port.Places.{Place}
use Rattle.office_commands.specs.print.AuditLines.{TellsRow, broken_line, no_office_line}
use Rattle.office_commands.specs.print.AuditLines.{sound_line}
use Rattle.vend_ports.specs.print.Printed.{file_line}
use Rattle.office_commands.specs.print.Opening.{opening_line}
use Rattle.vend_ports.specs.print.Told.{IsTold, Outputs}
use Rattle.vend_ports.specs.declared.command_end.CommandEnd.{CommandEnd}
use Rattle.vend_ports.specs.declared.command_end.CommandEnd.TheVariants.{Done, Refused}

-- what the file keeps; or, where it has none of the office's tables, that it has no office
abbrev pub TellsCounted : Audited → Outputs → CommandEnd → Type 0
TellsCounted audited o end = MatchBool (audited.format == 0)
    (IsTold o no_office_line [] Refused end) (IsTold o (sound_line audited) [] Done end)

-- What an audit answers is told: what the file keeps, or that it has no office, or the row that
-- breaks a rule, goes to the output; that the file has other tables under the names of the
-- office's, or was not read, to the error output.
abbrev pub TellsAudit : Result Audited AuditFault → Outputs → CommandEnd → Type 0
TellsAudit (Ok audited) o end = TellsCounted audited o end
TellsAudit (Err (Found finding)) o end =
    (row : List Text) × TellsRow finding.row row × IsTold o (broken_line finding row) [] Refused end
TellsAudit (Err NoOffice) o end = IsTold o [] (opening_line NotAnOffice) Refused end
TellsAudit (Err (Failed error)) o end = IsTold o [] (opening_line (fault_of error)) Refused end

-- The file is not there, and is not made; or it is there and no connection is made to it; or it has
-- none of the office's tables, and is left as it was; or it is audited, by the transform that is
-- given, where one is. That is told, and nothing else.
pub data IsAudited (place : Place) (given : Option BlockFunction) (o : Outputs) (end : CommandEnd)
    : Type 0 where
  absent : place.misses → IsTold o [] file_line Refused end → IsAudited place given o end
  unopened : (fault : OpenFault) → place.refuses fault
      → IsTold o [] (opening_line fault) Refused end → IsAudited place given o end
  vacant : place.vacant → IsTold o no_office_line [] Refused end → IsAudited place given o end
  looked : (answer : Result Audited AuditFault) → place.meets → place.audits given answer
      → TellsAudit answer o end → IsAudited place given o end
