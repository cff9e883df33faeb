use Rattle.std.proofs.Common.{◌≡◌, ◌++◌, List, Ok}
use Rattle.std.specs.BTreeMap.{values}
use Rattle.sqlite.specs.Held.{state}
use Rattle.book_tables.specs.format.Filling.{ArePut, Fills, PutsFirst}
use Rattle.book_tables.proofs.format.fill.put_all.Given as goal

abbrev pub invariant-rows : goal.invariant-rows
invariant-rows g l =
    let old = state g.S.Store l.fn.tx.conn.now in
    let now = state g.S.Store l.tx.conn.now in
    record {
      same : l.tx.conn.ghost_name ≡ l.fn.tx.conn.ghost_name;
      before : List _;
      split : before ++ l.row-iterator ≡ values l.rows;
      puts : Fills (ArePut g.T.TotalRow.puts before) (PutsFirst g.T.TotalRow.in_table g.T.TotalRow.are before) old now (Ok tt);
    }
