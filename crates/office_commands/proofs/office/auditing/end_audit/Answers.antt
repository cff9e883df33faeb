use Rattle.std.proofs.Common.{◌≡◌, ◌∙◌, IfOk, ap, refl, subst, sym, arith}
use Rattle.one_table.specs.Standing.{tree_in}
use Rattle.book_tables.specs.Kept.{shifts_kept}
use Rattle.whole_rows.specs.Ended.{Looks}
use Rattle.office_commands.specs.port.Back.{lets_go_giving}
use Rattle.office_commands.specs.office.Audits.{looked, passed_over, shift_width}
use Rattle.office_commands.proofs.ClosingLemmas.{are_closed}
use Rattle.office_commands.proofs.office.auditing.end_audit.Goals as goal

pub returns-then-audited-eq0 : goal.returns-then-audited-eq0
returns-then-audited-eq0 g c = record {
  last = c.args.conn;
  looks = passed_over (subst (λ found. IfOk found (λ audited. audited.format ≡ 0)) (sym c.in-Ok.is) c.if-audited-eq0.true) refl (sym c.in-Ok.is);
  closed = c.close_connection-back.ensures;
}

pub returns-else-audited-eq0 : goal.returns-else-audited-eq0
returns-else-audited-eq0 g c =
    let name = shifts_kept.table.name in
    let partial = c.end_looking-partial.result in
    let at = c.end_looking-partial.ensures in
    let tree = c.tree_of_shifts-tree.ensures ∙ ap (λ schema. tree_in schema name) c.schema.ensures.value in
    record {
      last = at.last;
      looks = looked c.in-Ok.audited partial.0 c.in-Ok.is (omega (arith, c.if-audited-eq0.false))
          (subst (λ tree. Looks tree shift_width c.args.conn at.last partial.0) tree at.looks) c.told_of.ensures;
      closed = are_closed at.last (lets_go_giving g.H.OfficeFile c.let_go_ended-back.result) partial.1 at.ends c.let_go_ended-back.ensures.closed c.let_go_ended-back.ensures.unclosed;
    }

pub returns-in-Err : goal.returns-in-Err
returns-in-Err g c = record {
  last = c.args.conn;
  looks = passed_over (subst (λ found. IfOk found (λ audited. audited.format ≡ 0)) (sym c.in-Err.is) tt) refl (sym c.in-Err.is);
  closed = c.close_connection-back-in-Err.ensures;
}
