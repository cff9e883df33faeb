use Rattle.std.proofs.Common.{◌≡◌, ◌++◌, drop, map}
use Rattle.vend_ports.specs.print.Printed.{table_row_of}
use Rattle.desk_commands.proofs.TableLemmas.{fields_left}
use Rattle.desk_commands.proofs.print.table.put_fields.Given as goal

-- the first fields were added, and the others are left
abbrev pub invariant-loop-field : goal.invariant-loop-field
invariant-loop-field l =
    l.text.items ++ fields_left l.separator (drop l.field-index l.fields) ≡ l.fn.text.items ++ table_row_of (map (λ f. f.now) l.fields)
