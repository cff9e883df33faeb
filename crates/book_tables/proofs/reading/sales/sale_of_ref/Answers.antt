use Rattle.sqlite.specs.Held.{state}
use Rattle.sqlite.specs.Values.{bound}
use Rattle.book_tables.proofs.ReadingLemmas.FindLemmas.{gives, only_asks, reads, sees}
use Rattle.book_tables.proofs.ReadingLemmas.SaleLemmas.{sale_of_ref}
use Rattle.book_tables.proofs.reading.sales.sale_of_ref.Goals as goal

pub returns-clause-given : goal.returns-clause-given
returns-clause-given g c clean rows has of_office =
    let old = state g.S.Store c.args.conn.now in
    let only = only_asks (sale_of_ref c.args.operator.now c.args.order_ref.now) old (λ runs. (has runs).0) in
    gives (sale_of_ref c.args.operator.now c.args.order_ref.now) old (state g.S.Store c.first_record.new.conn) rows has of_office c.first_record.result
    (bound c.ref_values.result) c.ref_values.ensures (c.first_record.ensures.reads.same clean only) (c.first_record.ensures.given clean only)

pub returns-clause-reads : goal.returns-clause-reads
returns-clause-reads g c =
    reads (sale_of_ref c.args.operator.now c.args.order_ref.now) (state g.S.Store c.args.conn.now)
    (state g.S.Store c.first_record.new.conn) c.first_record.result (bound c.ref_values.result) c.ref_values.ensures
    c.first_record.ensures.reads

pub returns-clause-sees : goal.returns-clause-sees
returns-clause-sees g c =
    sees (sale_of_ref c.args.operator.now c.args.order_ref.now) (state g.S.Store c.args.conn.now) (state g.S.Store c.first_record.new.conn)
    c.first_record.result (bound c.ref_values.result) c.ref_values.ensures
    c.first_record.ensures.reads c.first_record.ensures.given
