use Rattle.std.proofs.Common.{◌≡◌, map, take}
use Rattle.sqlite.specs.Held.{state}
use Rattle.sqlite.specs.State.{HasCleanDisk, Survives}
use Rattle.one_table.proofs.TurnLemmas.{HasMadeSo}
use Rattle.one_table.proofs.make.create_tables.Given as goal

abbrev pub invariant-texts : goal.invariant-texts
invariant-texts g l =
    let old = state g.S.Store l.fn.tx.conn.now in
    let now = state g.S.Store l.tx.conn.now in
    record {
      same : l.tx.conn.ghost_name ≡ l.fn.tx.conn.ghost_name;
      survives : Survives old now (λ _. ⊥);
      made : HasCleanDisk now → HasMadeSo (map (λ t. t.now) (take l.text-index l.texts)) old now;
    }
