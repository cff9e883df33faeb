use Rattle.audit_rows.specs.Entries.{rows_of}
use Rattle.audit_rows.proofs.ReadLemmas.{second_read}
use Rattle.audit_rows.proofs.tables.SecondTables.into_rows.Goals as goal

pub returns : goal.returns
returns g c db says = second_read db (rows_of c.in_ok-rows.rows) (c.in_ok-rows.ensures db says.0) c.args.self.1.0.items
    c.args.self.1.1.0.items c.args.self.1.1.1.items says.1.0 says.1.1.0 says.1.1.1
