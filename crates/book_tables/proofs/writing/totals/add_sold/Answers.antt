use Rattle.std.proofs.Common.{rules, arith, append-nil, codes, List, [], ◌∷◌, inl, inr, subst}
use Rattle.sqlite.specs.Held.{state}
use Rattle.sqlite.specs.State.{HasCleanDisk, State}
use Rattle.sts_fields.specs.Calendar.{month_at}
use Rattle.office_rules.specs.declared.office.sale.Sale.{Sale}
use Rattle.book_tables.specs.declared.error.TableError.{TableError}
use Rattle.one_table.proofs.ChangeLemmas.{transaction_off, transaction_on, transaction_then}
use Rattle.book_tables.specs.declared.error.TableError.TheVariants.{RowOfNoOffice}
use Rattle.book_tables.proofs.WritingLemmas.AddTotalsLemmas.{may_add_totals, tables_stay, tells_sold}
use Rattle.book_tables.proofs.WritingLemmas.RefusalLemmas.{handed_on, same_error}
use Rattle.book_tables.specs.writing.Failing.{FailsToStore, FailsToTotal, FailsToWriteAll}
use Rattle.book_tables.specs.writing.Writes.{Write, last_id_set, new_sale, sale_writes, tenths_added, totals_writes}
use Rattle.book_tables.proofs.WritingLemmas.CauseLemmas.{Came, came_by, came_here, ends_off, of_later, of_store, tells_later, written_then}
use Rattle.book_tables.proofs.ReadingLemmas.SeenLemmas.{none_of}
use Rattle.book_tables.proofs.writing.totals.add_sold.Goals as goal

pub returns-in_err-add_sale-clause-adds : goal.returns-in_err-add_sale-clause-adds
returns-in_err-add_sale-clause-adds g c = record {
  same_reference = search rules;
  transaction =
      let failed = c.in_err-add_sale.ensures.writes.transaction in
      transaction_off _ c.from_residual.result c.from_residual.ensures.1 failed.kept failed.survives;
  says = search rules;
}

pub returns-in_err-totals-clause-adds : goal.returns-in_err-totals-clause-adds
returns-in_err-totals-clause-adds g c = record {
  same_reference = search rules;
  transaction =
      let r = c.from_residual-in_err-totals.result in
      let failed = c.in_err-totals.ensures.adds.transaction in
      transaction_then (state g.S.Store c.args.tx.now.conn.now) (state g.S.Store c.add_sale.new.tx.conn.now)
      (state g.S.Store c.add_totals.new.tx.conn.now) r c.in_ok-add_sale.ensures.writes.transaction
      (transaction_off _ r c.from_residual-in_err-totals.ensures.1 failed.kept failed.survives);
  says = λ clean way has. none_of _ _ c.from_residual-in_err-totals.result c.from_residual-in_err-totals.ensures.1;
}

pub returns-clause-adds : goal.returns-clause-adds
returns-clause-adds g c = record {
  same_reference = search rules;
  transaction =
      transaction_then (state g.S.Store c.args.tx.now.conn.now) (state g.S.Store c.add_sale.new.tx.conn.now)
      (state g.S.Store c.add_totals.new.tx.conn.now) _ c.in_ok-add_sale.ensures.writes.transaction
      (transaction_on c.in_ok-totals.ensures.adds.transaction);
  says = λ clean way has.
      let old = state g.S.Store c.args.tx.now.conn.now in
      let mid = state g.S.Store c.add_sale.new.tx.conn.now in
      let new = state g.S.Store c.add_totals.new.tx.conn.now in
      let early : HasCleanDisk mid = omega (arith, c.add_totals.ensures.adds.transaction.survives.clean) in
      let first = c.in_ok-add_sale.ensures.writes.says.made early has in
      let second = c.in_ok-totals.ensures.adds.says clean first.only.inside.mode (tables_stay (codes "sales" ∷ []) old mid first.only has) in
      tells_sold c.amount_law.ensures.greatest c.args.sale.now c.in_ok-totals.totals old mid new first second has;
}

pub returns-in_err-add_sale-clause-no_false_row : goal.returns-in_err-add_sale-clause-no_false_row
returns-in_err-add_sale-clause-no_false_row g c clean way format rows held known told_so =
    let old = state g.S.Store c.args.tx.now.conn.now in
    let new = state g.S.Store c.add_sale.new.tx.conn.now in
    let e = c.in_err-add_sale.field-0.0 in
    let fails : FailsToStore (new_sale c.args.sale.now) old new e = (c.in_err-add_sale.ensures.writes.says.ends clean (λ runs. (held runs).has)).1 in
    subst (FailsToStore (new_sale c.args.sale.now) old new)
    (same_error {A = Unit {0}} e RowOfNoOffice (handed_on e RowOfNoOffice c.from_residual.result c.from_residual.ensures.1 told_so)) fails

pub returns-in_err-totals-clause-no_false_row : goal.returns-in_err-totals-clause-no_false_row
returns-in_err-totals-clause-no_false_row g c clean way format rows held known told_so =
    let sale = c.args.sale.now in
    let old = state g.S.Store c.args.tx.now.conn.now in
    let mid = state g.S.Store c.add_sale.new.tx.conn.now in
    let early : HasCleanDisk mid = omega (arith, c.add_totals.ensures.adds.transaction.survives.clean) in
    let first = c.in_ok-add_sale.ensures.writes.says.made early (λ runs. (held runs).has) in
    let after = may_add_totals sale c.amount_law.ensures.greatest old mid first format rows (held first.only.inside.was_open) known in
    c.in_err-totals.ensures.no_false_row clean first.only.inside.mode format after.0 (λ _. after.1) after.2
    (handed_on c.in_err-totals.field-0.0 RowOfNoOffice c.from_residual-in_err-totals.result c.from_residual-in_err-totals.ensures.1 told_so)

pub returns-in_err-add_sale-clause-ends : goal.returns-in_err-add_sale-clause-ends
returns-in_err-add_sale-clause-ends g c clean way has =
    let sale = c.args.sale.now in
    let old = state g.S.Store c.args.tx.now.conn.now in
    let new = state g.S.Store c.add_sale.new.tx.conn.now in
    let e = c.in_err-add_sale.field-0.0 in
    ends_off (FailsToTotal (new_sale sale ∷ []) sale sale.tid) (sale_writes sale) old new e c.from_residual.result c.from_residual.ensures.1
    (inl (of_store [] old old new (came_here old way) (new_sale sale) (totals_writes sale sale.tid) e (c.in_err-add_sale.ensures.writes.says.ends clean has).1))

-- why the totals fail after the sale
fails_later : (sale : Sale) (old mid new : State) → Came (new_sale sale ∷ []) old mid → (e : TableError)
    → FailsToTotal [] sale sale.tid (totals_writes sale sale.tid) mid new e
    → FailsToTotal (new_sale sale ∷ []) sale sale.tid (sale_writes sale) old new e
fails_later sale old mid new came e (inl why) =
    inl (subst (λ (l : List Write). FailsToWriteAll (new_sale sale ∷ l) old new e) (append-nil (totals_writes sale sale.tid))
    (of_later (new_sale sale ∷ []) old mid new came (totals_writes sale sale.tid) [] e why))
fails_later sale old mid new came e (inr (is, inl it)) = inr (is, inl (tells_later came [] it))
fails_later sale old mid new came e (inr (is, inr (inl it))) = inr (is, inr (inl (tells_later came _ it)))
fails_later sale old mid new came e (inr (is, inr (inr it))) = inr (is, inr (inr (tells_later came _ it)))

pub returns-in_err-totals-clause-ends : goal.returns-in_err-totals-clause-ends
returns-in_err-totals-clause-ends g c clean way has =
    let sale = c.args.sale.now in
    let old = state g.S.Store c.args.tx.now.conn.now in
    let mid = state g.S.Store c.add_sale.new.tx.conn.now in
    let new = state g.S.Store c.add_totals.new.tx.conn.now in
    let early : HasCleanDisk mid = omega (arith, c.add_totals.ensures.adds.transaction.survives.clean) in
    let done = c.in_ok-add_sale.ensures.writes in
    let first = done.says.made early has in
    let came = came_by (new_sale sale ∷ []) old mid (done.says.ends early has).0 first.only.inside done.transaction.survives in
    let e = c.in_err-totals.field-0.0 in
    let fails = (c.in_err-totals.ensures.ends clean first.only.inside.mode (tables_stay (codes "sales" ∷ []) old mid first.only has)).1 in
    ends_off (FailsToTotal (new_sale sale ∷ []) sale sale.tid) (sale_writes sale) old new e c.from_residual-in_err-totals.result c.from_residual-in_err-totals.ensures.1
    (fails_later sale old mid new came e fails)

pub returns-clause-ends : goal.returns-clause-ends
returns-clause-ends g c clean way has =
    let sale = c.args.sale.now in
    let old = state g.S.Store c.args.tx.now.conn.now in
    let mid = state g.S.Store c.add_sale.new.tx.conn.now in
    let new = state g.S.Store c.add_totals.new.tx.conn.now in
    let early : HasCleanDisk mid = omega (arith, c.add_totals.ensures.adds.transaction.survives.clean) in
    let done = c.in_ok-add_sale.ensures.writes in
    let first = done.says.made early has in
    let came = came_by (new_sale sale ∷ []) old mid (done.says.ends early has).0 first.only.inside done.transaction.survives in
    let then = (c.in_ok-totals.ensures.ends clean first.only.inside.mode (tables_stay (codes "sales" ∷ []) old mid first.only has)).0 in
    (written_then (new_sale sale ∷ []) (totals_writes sale sale.tid) old mid new came then, tt)

pub returns-in_err-add_sale-clause-told : goal.returns-in_err-add_sale-clause-told
returns-in_err-add_sale-clause-told g c clean way has = none_of _ _ c.from_residual.result c.from_residual.ensures.1

pub returns-in_err-totals-clause-told : goal.returns-in_err-totals-clause-told
returns-in_err-totals-clause-told g c clean way has = none_of _ _ c.from_residual-in_err-totals.result c.from_residual-in_err-totals.ensures.1

pub returns-clause-told : goal.returns-clause-told
returns-clause-told g c clean way has =
    let sale = c.args.sale.now in
    let old = state g.S.Store c.args.tx.now.conn.now in
    let mid = state g.S.Store c.add_sale.new.tx.conn.now in
    let early : HasCleanDisk mid = omega (arith, c.add_totals.ensures.adds.transaction.survives.clean) in
    let done = c.in_ok-add_sale.ensures.writes in
    let first = done.says.made early has in
    let came = came_by (new_sale sale ∷ []) old mid (done.says.ends early has).0 first.only.inside done.transaction.survives in
    let told = c.in_ok-totals.ensures.told clean first.only.inside.mode (tables_stay (codes "sales" ∷ []) old mid first.only has) in
    let id = last_id_set (sale.meter, sale.base) sale.tid in
    let tenths = tenths_added (sale.meter, month_at sale.moment) sale.tenths in
    record {
      identifier = tells_later came [] told.identifier;
      month = tells_later came (id ∷ []) told.month;
      shift = tells_later came (id ∷ tenths ∷ []) told.shift;
    }
