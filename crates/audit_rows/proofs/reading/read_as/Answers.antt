use Rattle.std.proofs.Common.{inr, refl, subst, sym}
use Rattle.sqlite.specs.Held.{state}
use Rattle.one_table.proofs.ReadsOnlyLemmas.{fail_on, read_into, read_on}
use Rattle.audit_rows.specs.AllRows.{IsReadAs}
use Rattle.audit_rows.specs.Entries.{rows_of}
use Rattle.audit_rows.proofs.ReadLemmas.{known_tables, of_format}
use Rattle.audit_rows.proofs.reading.read_as.Goals as goal

pub returns-in_err-read-clause-reads : goal.returns-in_err-read-clause-reads
returns-in_err-read-clause-reads g c = fail_on c.from_residual.result c.from_residual.ensures.1
    (of_format g.R.Source.tables g.R.Tables.format c.args.format g.met.R.Tables.reads c.requires.is _ c.in_err-read.ensures.reads)

pub returns-in-Ok-clause-given : goal.returns-in-Ok-clause-given
returns-in-Ok-clause-given g c clean known =
    let old = state g.S.Store c.args.conn.now in
    let has = known_tables g.R.Source.tables g.R.Tables.format c.args.format g.met.R.Tables.reads c.requires.is old known in
    subst (λ n. IsReadAs n old.now (rows_of c.in-Ok.rows)) (sym c.requires.is) (c.in-Ok.ensures old.now (c.in_ok-read.ensures.given clean has))

pub returns-in-Ok-clause-reads : goal.returns-in-Ok-clause-reads
returns-in-Ok-clause-reads g c = read_on (of_format g.R.Source.tables g.R.Tables.format c.args.format g.met.R.Tables.reads c.requires.is _
    c.in_ok-read.ensures.reads)

pub returns-in-Err-clause-reads : goal.returns-in-Err-clause-reads
returns-in-Err-clause-reads g c =
    let this = of_format g.R.Source.tables g.R.Tables.format c.args.format g.met.R.Tables.reads c.requires.is _ c.in_ok-read.ensures.reads in
    read_into _ this (λ clean known. inr (refl, this.same clean known))
