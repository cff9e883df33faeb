-- What `report` prints of an office.
use Rattle.std.specs.Prelude.{◌⊎◌, true, [], Result}
use Rattle.std.specs.Option.{ok_or}
use Rattle.sqlite_trees.specs.declared.store.Store.{Ghosts}
use Rattle.sts_fields.specs.Moment.{first_moment}
use Rattle.books.specs.Keeps.{Seen}
use Rattle.office_rules.specs.Decision.{decision_of}
use Rattle.office_rules.specs.Decision.Fold.{reply_of}
use Rattle.office_rules.specs.Office.{empty_office}
use Rattle.office_rules.specs.declared.decision.answer.Answer.{Answer}
use Rattle.office_rules.specs.declared.decision.refusal.Refusal.{Refusal}
use Rattle.office_rules.specs.declared.decision.refusal.Refusal.TheVariants.{Memory, NoSuchShift}
use Rattle.office_rules.specs.declared.decision.request.Request.{Request}
use Rattle.office_rules.specs.declared.decision.request.Request.TheVariants.{Reprint, ShiftReport}
use Rattle.book_facts.specs.Totals.{shift_totals}
use Rattle.papers.specs.Export.{export_of}
use Rattle.command_line.specs.Transform.{forward_of}
use Rattle.office_commands.specs.print.Exported.{IsExported}
use Rattle.vend_ports.specs.print.Printed.{file_line, refusal_line}
use Rattle.office_commands.specs.port.Places.{Places, where_present}
use Rattle.office_commands.specs.office.Served.{IsServedAndTold, TellsReply}
use Rattle.vend_ports.specs.print.Told.{IsTold, Outputs}
use Rattle.office_commands.specs.print.Totalled.{IsTotalled, TellsTotals}
use Rattle.office_commands.specs.office.Visited.{IsVisited}
use Rattle.office_commands.specs.declared.office.paper.Paper.{Paper}
use Rattle.office_commands.specs.declared.office.paper.Paper.TheVariants.{Shift, Receipt, Totals}
use Rattle.office_commands.specs.declared.office.paper.Paper.TheVariants.{Sales}
use Rattle.command_line.specs.declared.place.FilePlace.{FilePlace}
use Rattle.command_line.specs.declared.transform.Shipped.TheVariants.{Plain}
use Rattle.vend_ports.specs.declared.command_end.CommandEnd.{CommandEnd}
use Rattle.vend_ports.specs.declared.command_end.CommandEnd.TheVariants.{Done, Refused}

-- a report or a receipt is asked for at the first moment, since it is the same at each
abbrev pub PrintsPaper : Paper → (old new : Seen) → Outputs → CommandEnd → Type 0
PrintsPaper (Shift number) old new o end =
    IsServedAndTold first_moment (ShiftReport number) old new o end
PrintsPaper (Receipt number) old new o end =
    IsServedAndTold first_moment (Reprint number) old new o end
PrintsPaper (Totals number) old new o end = IsTotalled number old new o end
PrintsPaper Sales old new o end = IsExported old new o end

-- ---- where a file has no office

-- what the empty office replies to its first request
abbrev pub empty_reply : Request → Result Answer Refusal
empty_reply request =
    reply_of (decision_of (forward_of Plain) empty_office first_moment 1 request)

-- a paper of the empty office: the reply is told, or the totals, or the export of no sales, if
-- there is room for its text
abbrev pub PrintsEmpty : Paper → Outputs → CommandEnd → Type 0
PrintsEmpty (Shift number) o end = TellsReply (empty_reply (ShiftReport number)) o end
PrintsEmpty (Receipt number) o end = TellsReply (empty_reply (Reprint number)) o end
PrintsEmpty (Totals number) o end =
    TellsTotals number (ok_or (shift_totals empty_office number) NoSuchShift) o end
PrintsEmpty Sales o end =
    IsTold o (export_of true empty_office.sales) [] Done end
    ⊎ IsTold o [] (refusal_line Memory) Refused end

-- ---- the command

-- The file is not there, and is not made, and that is told; or it has none of the office's tables,
-- and is left as it was, and the paper is printed of the empty office; or it is printed of the
-- office in the file, where no token is written.
pub data IsReported {S : Type 0} (store : Ghosts S) (at : Places) (file : FilePlace) (paper : Paper)
    (o : Outputs) (end : CommandEnd) : Type 0 where
  absent : (at file.path.now file.wait).misses → IsTold o [] file_line Refused end
      → IsReported store at file paper o end
  vacant : (at file.path.now file.wait).vacant → PrintsEmpty paper o end
      → IsReported store at file paper o end
  present : IsVisited store (where_present (at file.path.now file.wait)) Plain
      (λ old new. PrintsPaper paper old new o end) o end
      → IsReported store at file paper o end
