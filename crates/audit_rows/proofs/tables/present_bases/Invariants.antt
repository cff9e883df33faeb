use Rattle.std.proofs.Common.{◌≡◌, map, take}
use Rattle.audit_rows.specs.Entries.{present_base}
use Rattle.audit_rows.proofs.tables.present_bases.Given as goal

abbrev pub invariant-meters : goal.invariant-meters
invariant-meters l = l.bases.items ≡ map present_base (take l.row-index l.meters)
