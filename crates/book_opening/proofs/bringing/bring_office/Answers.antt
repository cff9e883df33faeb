use Rattle.sqlite.specs.Held.{state}
use Rattle.book_opening.proofs.BringingLemmas.{leaves_present, plain_fault}
use Rattle.book_opening.proofs.CauseLemmas.{fails_commit, fails_unmade}
use Rattle.book_opening.proofs.bringing.bring_office.Goals as goal

pub returns-in-Err-Unmade-clause-told : goal.returns-in-Err-Unmade-clause-told
returns-in-Err-Unmade-clause-told g c clean is_open has =
    plain_fault c.in-Err-Unmade.error c.fault_of_table.result c.fault_of_table.ensures.kind
    ((rw c.in-Err-Unmade.field-0-is at (c.in-Err-Unmade.ensures.told clean)) (has is_open).0 (has is_open).1)

pub returns-in-Err-InDoubt-clause-survives : goal.returns-in-Err-InDoubt-clause-survives
returns-in-Err-InDoubt-clause-survives g c opens has =
    leaves_present c.args.from c.args.meters.now c.args.sales.now (state g.S.Store c.args.conn.now)
    (state g.S.Store c.change_once.new.conn) opens has c.change_once.ensures.crash

pub returns-in-Err-InDoubt-clause-risks : goal.returns-in-Err-InDoubt-clause-risks
returns-in-Err-InDoubt-clause-risks g c opens has =
    leaves_present c.args.from c.args.meters.now c.args.sales.now (state g.S.Store c.args.conn.now)
    (state g.S.Store c.change_once.new.conn) opens has c.change_once.ensures.crash

pub returns-in-Err-Unmade-clause-fails : goal.returns-in-Err-Unmade-clause-fails
returns-in-Err-Unmade-clause-fails g c clean with =
    fails_unmade g.S.Store c.args.from c.args.conn.now (state g.S.Store c.change_once.new.conn) c.args.meters.now c.args.sales.now with
    c.in-Err-Unmade.error c.fault_of_table.result
    c.fault_of_table.ensures.value (rw c.in-Err-Unmade.field-0-is at (c.in-Err-Unmade.ensures.refused clean))

pub returns-in-Err-InDoubt-clause-fails : goal.returns-in-Err-InDoubt-clause-fails
returns-in-Err-InDoubt-clause-fails g c clean with =
    fails_commit g.S.Store c.args.from c.args.conn.now (state g.S.Store c.change_once.new.conn) c.args.meters.now c.args.sales.now with _
    (rw c.in-Err-InDoubt.field-0-is at (c.in-Err-InDoubt.ensures.doubted clean))
