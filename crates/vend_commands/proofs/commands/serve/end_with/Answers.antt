use Rattle.std.proofs.Common.{◌∙◌, Ok, ap, subst, sym}
use Rattle.office_commands.specs.office.Closed.{IsClosed}
use Rattle.office_commands.specs.port.Back.{lets_go_giving}
use Rattle.vend_commands.specs.serving.Listening.{IsClosedAfter, last_line}
use Rattle.vend_ports.specs.print.Told.{Takes}
use Rattle.office_commands.specs.office.Visited.{seen_in}
use Rattle.vend_ports.proofs.TakeLemmas.{takes_none}
use Rattle.vend_commands.proofs.commands.serve.end_with.Goals as goal

pub returns-then-all-clause-closed : goal.returns-then-all-clause-closed
returns-then-all-clause-closed g c =
    subst (IsClosedAfter (λ books. IsClosed g.H.Medium.Disk (lets_go_giving g.H.OfficeFile c.close_office-back.result) (seen_in books))) (sym c.in-Ok.is) c.close_office-back.ensures

pub returns-then-all-clause-told : goal.returns-then-all-clause-told
returns-then-all-clause-told g c =
    let held = c.args.err.now in
    subst (λ served. Takes held held (last_line served)) (sym (c.in-Ok.is ∙ ap (λ all. Ok (c.in-Ok.books, all)) c.if-all.true)) (takes_none held)

pub returns-else-all-clause-closed : goal.returns-else-all-clause-closed
returns-else-all-clause-closed g c =
    subst (IsClosedAfter (λ books. IsClosed g.H.Medium.Disk (lets_go_giving g.H.OfficeFile c.close_office-back.result) (seen_in books))) (sym c.in-Ok.is) c.close_office-back.ensures
