use Rattle.sqlite.specs.Held.{state}
use Rattle.book_opening.proofs.BringingLemmas.{brought_inside, refused_inside, told_inside}
use Rattle.book_opening.proofs.bringing.BringingChange.make.Goals as goal

pub returns-clause-made : goal.returns-clause-made
returns-clause-made g c =
    let change = c.args.self.now in
    record {
      same_reference = c.bring.ensures.brings.same_reference;
      transaction = c.bring.ensures.brings.transaction;
      says = λ clean way. brought_inside change.from change.meters.now change.sales.now (state g.S.Store c.args.tx.now.conn.now)
          (state g.S.Store c.bring.new.tx.conn.now) c.bring.result (c.bring.ensures.brings.says clean);
    }

pub returns-clause-refused : goal.returns-clause-refused
returns-clause-refused g c clean way =
    refused_inside c.args.self.now.from c.args.self.now.meters.now c.args.self.now.sales.now (state g.S.Store c.args.tx.now.conn.now)
    (state g.S.Store c.bring.new.tx.conn.now) g.S.Store c.bring.result
    (c.bring.ensures.refused clean way)

pub returns-clause-told : goal.returns-clause-told
returns-clause-told g c clean way =
    told_inside c.args.self.now.from c.args.self.now.meters.now c.args.self.now.sales.now (state g.S.Store c.args.tx.now.conn.now)
    (state g.S.Store c.bring.new.tx.conn.now) g.S.Store c.bring.result
    (c.bring.ensures.refused clean way)
