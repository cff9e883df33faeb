use Rattle.std.proofs.Common.{◌∙◌, ap, map}
use Rattle.audit_rows.specs.Entries.{present_base, sale_entry}
use Rattle.audit_rows.specs.declared.office_rows.OfficeRows.{OfficeRows}
use Rattle.audit_rows.proofs.ReadLemmas.{first_read}
use Rattle.audit_rows.proofs.tables.FirstTables.into_rows.Goals as goal

pub returns : goal.returns
returns g c db says =
    let rows : OfficeRows = record {
      tariffs = c.args.self.0;
      steps = c.args.self.1.0;
      meters = c.args.self.1.1.0;
      shifts = c.args.self.1.1.1.0;
      sales = c.in_ok-sales.sales;
      last_ids = c.new.result;
      month_tenths = c.new-2.result;
      shift_totals = c.new-3.result;
      bases = c.in_ok-bases.bases;
      dated_steps = c.new-4.result;
    } in
    first_read db rows says.0 says.1.0 says.1.1.0 says.1.1.1.0 c.args.self.1.1.1.1.items says.1.1.1.1
    (c.in_ok-sales.ensures ∙ ap (map sale_entry) c.deref-2.ensures.value)
    (c.in_ok-bases.ensures ∙ ap (map present_base) c.deref.ensures.value) c.new-4.ensures.items
