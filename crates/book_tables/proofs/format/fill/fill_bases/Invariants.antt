use Rattle.std.proofs.Common.{◌≡◌, Ok, map, take}
use Rattle.sqlite.specs.Held.{state}
use Rattle.book_tables.specs.format.Filling.{Fills, FillsBases, base_write}
use Rattle.book_tables.proofs.format.fill.fill_bases.Given as goal

abbrev pub invariant-bases : goal.invariant-bases
invariant-bases g l = record {
  same : l.tx.conn.ghost_name ≡ l.fn.tx.conn.ghost_name;
  fills : Fills (λ ws. ws ≡ map base_write (take l.present-index l.meters)) (FillsBases (take l.present-index l.meters))
      (state g.S.Store l.fn.tx.conn.now) (state g.S.Store l.tx.conn.now) (Ok tt);
}
