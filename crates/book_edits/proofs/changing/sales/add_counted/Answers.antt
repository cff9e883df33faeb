use Rattle.std.proofs.Common.{rules, arith, inr}
use Rattle.sqlite.specs.Held.{state}
use Rattle.one_table.proofs.ChangeLemmas.{told_as, transaction_off}
use Rattle.office_rules.specs.declared.decision.change.Edit.TheVariants.{AddSale}
use Rattle.book_states.specs.Failing.{FailsToMakeEdit}
use Rattle.book_tables.proofs.ReadingLemmas.SeenLemmas.{none_of}
use Rattle.book_edits.proofs.ChangeLemmas.{sold_refused}
use Rattle.book_edits.proofs.changing.sales.add_counted.Goals as goal

pub returns-in_err-totals-clause-refused : goal.returns-in_err-totals-clause-refused
returns-in_err-totals-clause-refused g c clean way has =
    let old = state g.S.Store c.args.tx.now.conn.now in
    let new = state g.S.Store c.add_sold.new.tx.conn.now in
    let e = c.in_err-totals.field-0.0 in
    told_as (FailsToMakeEdit (AddSale c.args.sale.now) c.args.prior old new) c.from_residual.result e c.from_residual.ensures.1
    (sold_refused c.args.sale.now c.args.prior old new e way clean (c.in_err-totals.ensures.ends clean way has).1 c.in_err-totals.ensures.no_false_row)

pub returns-in_err-totals-clause-added : goal.returns-in_err-totals-clause-added
returns-in_err-totals-clause-added g c = record {
  same_reference = search rules;
  transaction = transaction_off _ c.from_residual.result c.from_residual.ensures.1 c.in_err-totals.ensures.adds.transaction.kept
      c.in_err-totals.ensures.adds.transaction.survives;
  says = search rules;
}

-- the month's tenths are fewer than the sale's
pub returns-then-totals-tenths-clause-refused : goal.returns-then-totals-tenths-clause-refused
returns-then-totals-tenths-clause-refused g c clean way has =
    let told = c.in_ok-totals.ensures.adds.says clean way has in
    inr (inr (
      c.in_ok-totals.totals,
      record { limit = (state g.S.Store c.args.tx.now.conn.now).step_limit; told = c.in_ok-totals.ensures.told clean way has; of_office = told.tells },
      λ same. omega (arith, c.if-totals-tenths.true, same, c.tenths.ensures.value, c.from-tenths.ensures),
    ))

-- they are not those before it and the sale's
pub returns-then-totals-tenths-2-clause-refused : goal.returns-then-totals-tenths-2-clause-refused
returns-then-totals-tenths-2-clause-refused g c clean way has =
    let told = c.in_ok-totals.ensures.adds.says clean way has in
    inr (inr (
      c.in_ok-totals.totals,
      record { limit = (state g.S.Store c.args.tx.now.conn.now).step_limit; told = c.in_ok-totals.ensures.told clean way has; of_office = told.tells },
      λ same. omega
          (arith, c.if-totals-tenths.false, c.if-totals-tenths-2.true, same, c.tenths.ensures.value, c.from-tenths.ensures),
    ))

pub returns-in_err-totals-clause-carried : goal.returns-in_err-totals-clause-carried
returns-in_err-totals-clause-carried g c clean way has = none_of _ _ c.from_residual.result c.from_residual.ensures.1

pub returns-clause-carried : goal.returns-clause-carried
returns-clause-carried g c clean way has = (c.in_ok-totals.ensures.ends clean way has).0
