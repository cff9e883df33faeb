use Rattle.std.proofs.Common.{◌∙◌, inr, refl, ap, subst}
use Rattle.sqlite.specs.Held.{state}
use Rattle.audit_rows.specs.Breaks.{IsBroken, ShowsOf}
use Rattle.audit_rows.specs.Tables.{list_of}
use Rattle.audit_rows.specs.Whole.{IsMadeOf}
use Rattle.audit_rows.specs.declared.table_name.TableName.{TableName}
use Rattle.audit_rows.proofs.WholeLemmas.{list_passes, list_stops, table_broken, table_listed, table_true}
use Rattle.audit_rows.proofs.source.VecSource.read.Goals as goal

pub returns-in-Err-clause-reads : goal.returns-in-Err-clause-reads
returns-in-Err-clause-reads g c =
    list_stops g.T.Named.name c.list.result.now (c.list.ensures ∙ ap list_of c.table.ensures) (state g.S.Store c.args.conn.now)
    (state g.S.Store c.read_rows.new.conn) c.in-Err.fault c.cause_of.result c.cause_of.ensures c.in-Err.ensures.reads

pub returns-in-Ok-Ok-clause-given : goal.returns-in-Ok-Ok-clause-given
returns-in-Ok-Ok-clause-given g c clean known =
    table_listed g.T.Named.name c.list.result.now (c.list.ensures ∙ ap list_of c.table.ensures) (state g.S.Store c.args.conn.now)
    (state g.S.Store c.read_rows.new.conn) c.in-Ok.ensures.reads
    g.T.Record.shown g.T.Record.keeps g.met.T.Listed.shows c.in-Ok.seen.items c.in-Ok.ensures.given clean known c.in-Ok-Ok.records.items
    (subst (IsMadeOf c.in-Ok.seen.items) c.in-Ok-Ok.field-0-is c.in-Ok-Ok.ensures)

pub returns-in-Ok-Ok-clause-whole : goal.returns-in-Ok-Ok-clause-whole
returns-in-Ok-Ok-clause-whole g c clean known =
    table_true g.T.Named.name c.list.result.now (c.list.ensures ∙ ap list_of c.table.ensures) (state g.S.Store c.args.conn.now)
    (state g.S.Store c.read_rows.new.conn) c.in-Ok.ensures.reads
    g.T.Record.shown g.T.Record.keeps g.met.T.Listed.shows c.in-Ok.seen.items c.in-Ok.ensures.given clean known c.in-Ok-Ok.records.items
    (subst (IsMadeOf c.in-Ok.seen.items) c.in-Ok-Ok.field-0-is c.in-Ok-Ok.ensures)

pub returns-in-Ok-Ok-clause-reads : goal.returns-in-Ok-Ok-clause-reads
returns-in-Ok-Ok-clause-reads g c =
    list_passes g.T.Named.name c.list.result.now (c.list.ensures ∙ ap list_of c.table.ensures) (state g.S.Store c.args.conn.now)
    (state g.S.Store c.read_rows.new.conn) c.in-Ok.ensures.reads _ (λ _ _ _. tt)

pub returns-in-Ok-Err-clause-reads : goal.returns-in-Ok-Err-clause-reads
returns-in-Ok-Err-clause-reads g c =
    let old = state g.S.Store c.args.conn.now in
    let new = state g.S.Store c.read_rows.new.conn in
    let is = c.list.ensures ∙ ap list_of c.table.ensures in
    let row = c.in-Ok-Err.row in
    let found = subst (IsMadeOf c.in-Ok.seen.items) c.in-Ok-Err.field-0-is c.in-Ok-Err.ensures in
    let broken = subst (λ (t : TableName). ¬ ShowsOf t row → IsBroken t row c.broken.result) c.table-in-Ok-Err.ensures c.broken.ensures in
    list_passes g.T.Named.name c.list.result.now is old new c.in-Ok.ensures.reads _ (λ clean known same.
    table_broken g.T.Named.name c.list.result.now is old new c.in-Ok.ensures.reads g.T.Record.shown g.T.Record.keeps g.met.T.Listed.shows
    c.in-Ok.seen.items c.in-Ok.ensures.given clean known found.0 row found.1 found.2 c.broken.result broken)

pub returns-in-Err-made_of-clause-reads : goal.returns-in-Err-made_of-clause-reads
returns-in-Err-made_of-clause-reads g c =
    list_passes g.T.Named.name c.list.result.now (c.list.ensures ∙ ap list_of c.table.ensures) (state g.S.Store c.args.conn.now)
    (state g.S.Store c.read_rows.new.conn) c.in-Ok.ensures.reads _ (λ _ _ same. inr (refl, same))
