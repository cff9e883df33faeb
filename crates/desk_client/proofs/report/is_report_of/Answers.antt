use Rattle.std.proofs.Common.{◌∙◌, sym, subst}
use Rattle.desk_client.specs.Report.{EndsReport}
use Rattle.desk_client.proofs.ReportLemmas.{one_head, report_begins, report_ends}
use Rattle.desk_client.proofs.TimeLemmas.{plain_time}
use Rattle.desk_client.proofs.report.is_report_of.Goals as goal

pub returns-in-Some : goal.returns-in-Some
returns-in-Some c =
    let rest = c.in-Some.rest.now in (
      λ yes. report_ends c.args.number c.args.text.now rest c.in-Some.ensures (c.ends_report.ensures.0 yes),
      λ is.
          let begins = report_begins c.args.number c.args.text.now is in
          c.ends_report.ensures.1
          (subst (EndsReport 0 0 0 0) (one_head (plain_time c.calendar_law.ensures.each_moment c.calendar_law.ensures.ranges) c.args.number c.args.text.now begins.0 rest begins.1 c.in-Some.ensures) begins.2),
    )

pub returns-in-None : goal.returns-in-None
returns-in-None c = (
  λ t. absurd cc,
  λ is.
      let begins = report_begins c.args.number c.args.text.now is in
      let head = begins.1 in
      absurd (c.in-None.ensures head.shift begins.0 head.told head.named head.written),
)
