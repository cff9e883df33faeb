use Rattle.std.proofs.Common.{◌≡◌, map, take}
use Rattle.audit_rows.specs.Entries.{sale_entry}
use Rattle.audit_rows.proofs.tables.sales_of.Given as goal

abbrev pub invariant-rows : goal.invariant-rows
invariant-rows l = l.sales.items ≡ map sale_entry (take l.row-index l.rows)
