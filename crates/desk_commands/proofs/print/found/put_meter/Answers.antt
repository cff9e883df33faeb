use Rattle.desk_commands.specs.print.FoundTexts.{meter_header, meter_table_row}
use Rattle.vend_ports.proofs.TakeLemmas.{takes_next}
use Rattle.desk_commands.proofs.print.found.put_meter.Goals as goal

pub returns : goal.returns
returns g c =
    let before = c.args.out.now in
    let between = c.put_row.new.out in
    let after = c.put_values.new.out in
    takes_next before between after meter_header (meter_table_row c.args.meter.now) c.put_row.ensures c.put_values.ensures
