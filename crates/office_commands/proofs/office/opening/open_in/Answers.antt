use Rattle.std.proofs.Common.{refl}
use Rattle.office_commands.specs.port.Places.IsUnopenedIn.{refused, unsalted}
use Rattle.office_commands.proofs.office.opening.open_in.Goals as goal

pub returns-in_default-clause-refused : goal.returns-in_default-clause-refused
returns-in_default-clause-refused g c = unsalted c.args.salts.now c.in_default.ensures.lacks refl (c.let_go.ensures.lets_go, refl)

pub returns-in-Ok-clause-opened : goal.returns-in-Ok-clause-opened
returns-in-Ok-clause-opened g c = record {
  opens = c.in-Ok.ensures.opened.books.opens;
  running = c.in-Ok.ensures.opened.books.running;
  writes = c.in-Ok.ensures.opened.books.writes;
  tables = c.in-Ok.ensures.opened.books.tables;
  finds = record {
    conn = c.in-Ok.books.conn;
    seen_as = record { now = refl; committed = refl; is_open = refl; is_clean = refl; faults = refl; left = λ trees may. may; leaves = λ trees may. may };
    opens = c.in-Ok.ensures.opened.finds;
  };
}

pub returns-in-Err-clause-refused : goal.returns-in-Err-clause-refused
returns-in-Err-clause-refused g c = let left = c.let_refused_go.ensures in refused left.0 c.in-Err.refused c.in-Err.ensures.refused left.1 left.2
