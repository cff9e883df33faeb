use Rattle.std.proofs.Common.{ap, arith, get_or, rules, slice_get, subst, sym, ◌∙◌}
use Rattle.sqlite.specs.State.{Shown}
use Rattle.sqlite.specs.Values.{bound}
use Rattle.sqlite.specs.Held.{state}
use Rattle.one_table.specs.declared.read_fault.ReadFault.TheVariants.{Database}
use Rattle.one_table.proofs.ChangeLemmas.{all_ok, if_err, if_ok, told_as, transaction_into, transaction_off}
use Rattle.one_table.specs.InTransaction.{BeginsWith}
use Rattle.one_table.proofs.TouchLemmas.{begins_with, fails_to_touch, none_first, showed, touched, touched_unread}
use Rattle.one_table.proofs.UpsertLemmas.{fails_to_upsert, fails_unread, upserted}
use Rattle.one_table.proofs.upserting.upsert.Goals as goal

pub returns-in_err-rows-clause-merged : goal.returns-in_err-rows-clause-merged
returns-in_err-rows-clause-merged g c =
    let failed = c.in_err-rows.ensures.shown in
    record {
      same_reference = failed.same_reference;
      transaction = transaction_off (Database c.in_err-rows.field-0.0) c.from_residual.result c.from_residual.ensures.1
          failed.transaction.kept failed.transaction.survives;
      says = search rules;
    }

pub returns-in_err-rows-clause-refused : goal.returns-in_err-rows-clause-refused
returns-in_err-rows-clause-refused g c clean way t at m is whole takes =
    told_as _ c.from_residual.result (Database c.in_err-rows.field-0.0) c.from_residual.ensures.1
    (fails_to_upsert c.args.sql.now (bound c.args.params.now) (state g.S.Store c.args.tx.now.conn.now)
    (state g.S.Store c.show.new.tx.conn.now) t at m is takes g.X.FromRow.is_readable whole c.in_err-rows.field-0.0
    (c.in_err-rows.ensures.refused clean))

pub returns-in-Some-clause-merged : goal.returns-in-Some-clause-merged
returns-in-Some-clause-merged g c =
    let old = state g.S.Store c.args.tx.now.conn.now in
    let new = state g.S.Store c.show.new.tx.conn.now in
    let item = c.in-Some.ensures.item in
    record {
      same_reference = c.in_ok-rows.ensures.shown.same_reference;
      transaction = transaction_into c.from_row.result c.in_ok-rows.ensures.shown.transaction;
      says = λ clean way t at m is takes.
          let shown = subst (Shown c.args.sql.now (bound c.args.params.now) old new) (sym c.deref.ensures.value)
          (c.in_ok-rows.ensures.shown.says clean) in
          let done = upserted c.args.sql.now (bound c.args.params.now) old new t at m is takes _ shown way in
          let first = item.1 ∙ ap (λ l. get_or l 0 c.in-Some.row.now) done.1 in
          if_ok c.from_row.result (λ x reads. (done.0, subst (λ r. g.X.FromRow.reads_as r x) first reads, done.2)) c.from_row.ensures.ok;
    }

pub returns-in-Some-clause-refused : goal.returns-in-Some-clause-refused
returns-in-Some-clause-refused g c clean way t at m is whole takes =
    let old = state g.S.Store c.args.tx.now.conn.now in
    let new = state g.S.Store c.show.new.tx.conn.now in
    let item = c.in-Some.ensures.item in
    let shown = subst (Shown c.args.sql.now (bound c.args.params.now) old new) (sym c.deref.ensures.value) (c.in_ok-rows.ensures.shown.says clean) in
    let done = upserted c.args.sql.now (bound c.args.params.now) old new t at m is takes _ shown way in
    if_err c.from_row.result (fails_unread c.args.sql.now (bound c.args.params.now) old new t at m is takes g.X.FromRow.is_readable _
    c.in-Some.row.now done item.1) c.from_row.ensures.err

pub returns-in_err-rows-clause-failed : goal.returns-in_err-rows-clause-failed
returns-in_err-rows-clause-failed g c clean way t at m is whole stands =
    told_as _ c.from_residual.result (Database c.in_err-rows.field-0.0) c.from_residual.ensures.1
    (fails_to_touch c.args.sql.now (bound c.args.params.now) (state g.S.Store c.args.tx.now.conn.now)
    (state g.S.Store c.show.new.tx.conn.now) t at m is stands g.X.FromRow.is_readable whole c.in_err-rows.field-0.0
    (c.in_err-rows.ensures.refused clean))

pub returns-in-Some-clause-touched : goal.returns-in-Some-clause-touched
returns-in-Some-clause-touched g c clean way t at m is stands =
    let old = state g.S.Store c.args.tx.now.conn.now in
    let new = state g.S.Store c.show.new.tx.conn.now in
    all_ok c.from_row.result (touched c.args.sql.now (bound c.args.params.now) old new t at m is stands _ (c.in_ok-rows.ensures.shown.says clean) way)

pub returns-in-Some-clause-failed : goal.returns-in-Some-clause-failed
returns-in-Some-clause-failed g c clean way t at m is whole stands =
    let sql = c.args.sql.now in
    let params = bound c.args.params.now in
    let old = state g.S.Store c.args.tx.now.conn.now in
    let new = state g.S.Store c.show.new.tx.conn.now in
    let shown = subst (Shown sql params old new) (sym c.deref.ensures.value) (c.in_ok-rows.ensures.shown.says clean) in
    let done = touched sql params old new t at m is stands _ shown way in
    if_err c.from_row.result (λ why only. touched_unread sql params old new t at m is stands g.X.FromRow.is_readable _ c.in-Some.row.now why shown done
    c.in-Some.ensures.item.1 only) c.from_row.ensures.err

pub returns-clause-failed : goal.returns-clause-failed
returns-clause-failed g c clean way t at m is whole stands =
    let sql = c.args.sql.now in
    let params = bound c.args.params.now in
    let old = state g.S.Store c.args.tx.now.conn.now in
    let new = state g.S.Store c.show.new.tx.conn.now in
    let shown = subst (Shown sql params old new) (sym c.deref.ensures.value) (c.in_ok-rows.ensures.shown.says clean) in (
      touched sql params old new t at m is stands _ shown way,
      showed sql params old new t at m is stands _ shown (λ l. ¬ BeginsWith g.X.FromRow.is_readable l)
          (none_first g.X.FromRow.is_readable _ c.in-None.ensures.value),
    )

pub returns-clause-refused : goal.returns-clause-refused
returns-clause-refused g c clean way t at m is whole takes =
    let old = state g.S.Store c.args.tx.now.conn.now in
    let new = state g.S.Store c.show.new.tx.conn.now in
    let shown = subst (Shown c.args.sql.now (bound c.args.params.now) old new) (sym c.deref.ensures.value) (c.in_ok-rows.ensures.shown.says clean) in
    let done = upserted c.args.sql.now (bound c.args.params.now) old new t at m is takes _ shown way in
    absurd (let none = c.in-None.ensures.value ∙ ap (λ l. slice_get l 0) done.1 in cc)

pub returns-in-Some-clause-ran : goal.returns-in-Some-clause-ran
returns-in-Some-clause-ran g c clean t at m is stands =
    let sql = c.args.sql.now in
    let params = bound c.args.params.now in
    let old = state g.S.Store c.args.tx.now.conn.now in
    let new = state g.S.Store c.show.new.tx.conn.now in
    let item = c.in-Some.ensures.item in
    let shown = subst (Shown sql params old new) (sym c.deref.ensures.value) (c.in_ok-rows.ensures.shown.says clean) in
    if_ok c.from_row.result (λ x reads. showed sql params old new t at m is stands _ shown (BeginsWith (λ row. g.X.FromRow.reads_as row x))
    (begins_with (λ row. g.X.FromRow.reads_as row x) c.in-Some.row.now c.deref.result.now (omega arith) item.1 reads)) c.from_row.ensures.ok
