use Rattle.std.proofs.Common.{refl}
use Rattle.books.specs.declared.refused_files.RefusedFiles.TheVariants.{Unconnected}
use Rattle.office_commands.specs.port.Places.IsUnopenedIn.{refused, unsalted}
use Rattle.office_commands.proofs.office.meeting.connect_in.Goals as goal

pub returns-in_default-clause-refused : goal.returns-in_default-clause-refused
returns-in_default-clause-refused g c = unsalted c.args.salts.now c.in_default.ensures.lacks refl c.let_go_looked.ensures

pub returns-in-Ok-clause-connected : goal.returns-in-Ok-clause-connected
returns-in-Ok-clause-connected g c = record {
  connected = λ clean.
      let opened = c.in-Ok.ensures.opened clean in
      let found = c.in-Ok.ensures.found clean in
      record {
        opens = opened.0;
        live = opened.1;
        found = record { holds = found.holds; reads = found.reads };
        in_order = c.found_law.ensures.in_order c.in-Ok.conn opened.0 opened.1;
        unlimited = c.in-Ok.ensures.fresh.unlimited;
      };
  plain = c.in-Ok.ensures.plain;
  rests = c.in-Ok.ensures.fresh.autocommit;
  unlimited = c.in-Ok.ensures.fresh.unlimited;
}

pub returns-in-Err-clause-refused : goal.returns-in-Err-clause-refused
returns-in-Err-clause-refused g c = refused c.into_files-files.result (Unconnected c.in-Err.left) (record {
  error = c.in-Err.error;
  answered = c.fault_of.ensures.value;
  fails = c.in-Err.ensures.cause;
  kept = c.in-Err.ensures.unharmed;
}) c.into_files-files.ensures c.let_go_looked-in-Err.ensures
