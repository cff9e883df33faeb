use Rattle.std.proofs.Common.{rules, ◌≡◌, ℕ, arith, codes, [], ◌∷◌, map, sym, subst, inl, inr}
use Rattle.sqlite.specs.Held.{state}
use Rattle.sqlite.specs.State.{HasCleanDisk, State}
use Rattle.one_table.proofs.ChangeLemmas.{transaction_off, transaction_on, transaction_then}
use Rattle.sts_fields.specs.Calendar.{month_at}
use Rattle.office_rules.specs.Office.Lookup.{greatest_of}
use Rattle.office_rules.specs.declared.office.sale.Sale.{Sale}
use Rattle.book_tables.specs.Stands.{sales_under}
use Rattle.book_tables.specs.writing.Writing.{AddsTenths, AddsToShift, MayAddTenths, MayAddToShift}
use Rattle.book_tables.specs.declared.error.TableError.TheVariants.{RowOfNoOffice}
use Rattle.book_tables.proofs.WritingLemmas.AddTotalsLemmas.{may_add_tenths, may_add_to_shift, tables_stay, tells_totals}
use Rattle.book_tables.proofs.WritingLemmas.RefusalLemmas.{begins_as, handed_on}
use Rattle.book_tables.specs.writing.Failing.{FailsToMerge, FailsToTotal}
use Rattle.sqlite.specs.Order.{Row as Values}
use Rattle.one_table.specs.InTransaction.{BeginsWith, ShowsInside}
use Rattle.book_tables.specs.declared.row.totals.Totals.{Totals}
use Rattle.book_tables.specs.writing.Telling.{ShowsSum, ShowsTid, ShowsTotals}
use Rattle.book_tables.specs.writing.Writes.{AreCarriedOut, last_id_set, sale_counted, tenths_added, totals_writes}
use Rattle.book_tables.proofs.WritingLemmas.CauseLemmas.{Came, came_by, came_here, came_later, ends_off, false_as, of_merge, tells_after, tells_as, written_then}
use Rattle.book_tables.proofs.ReadingLemmas.SeenLemmas.{none_of}
use Rattle.book_tables.proofs.writing.totals.add_totals.Goals as goal

pub returns-in_err-set_last_id-clause-adds : goal.returns-in_err-set_last_id-clause-adds
returns-in_err-set_last_id-clause-adds g c = record {
  same_reference = search rules;
  transaction =
      let failed = c.in_err-set_last_id.ensures.merges.transaction in
      transaction_off _ c.from_residual.result c.from_residual.ensures.1 failed.kept failed.survives;
  says = search rules;
}

pub returns-in_err-month_tenths-clause-adds : goal.returns-in_err-month_tenths-clause-adds
returns-in_err-month_tenths-clause-adds g c = record {
  same_reference = search rules;
  transaction =
      let r = c.from_residual-in_err-month_tenths.result in
      let failed = c.in_err-month_tenths.ensures.merges.transaction in
      transaction_then (state g.S.Store c.args.tx.now.conn.now) (state g.S.Store c.set_last_id.new.tx.conn.now)
      (state g.S.Store c.add_tenths.new.tx.conn.now) r c.in_ok-set_last_id.ensures.merges.transaction
      (transaction_off _ r c.from_residual-in_err-month_tenths.ensures.1 failed.kept failed.survives);
  says = λ clean way has. none_of _ _ c.from_residual-in_err-month_tenths.result c.from_residual-in_err-month_tenths.ensures.1;
}

pub returns-in_err-shift-clause-adds : goal.returns-in_err-shift-clause-adds
returns-in_err-shift-clause-adds g c = record {
  same_reference = search rules;
  transaction =
      let old = state g.S.Store c.args.tx.now.conn.now in
      let one = state g.S.Store c.set_last_id.new.tx.conn.now in
      let two = state g.S.Store c.add_tenths.new.tx.conn.now in
      let new = state g.S.Store c.add_to_shift.new.tx.conn.now in
      let r = c.from_residual-in_err-shift.result in
      let failed = c.in_err-shift.ensures.merges.transaction in
      transaction_then old one new r c.in_ok-set_last_id.ensures.merges.transaction
      (transaction_then one two new r c.in_ok-month_tenths.ensures.merges.transaction
      (transaction_off _ r c.from_residual-in_err-shift.ensures.1 failed.kept failed.survives));
  says = λ clean way has. none_of _ _ c.from_residual-in_err-shift.result c.from_residual-in_err-shift.ensures.1;
}

pub returns-clause-adds : goal.returns-clause-adds
returns-clause-adds g c = record {
  same_reference = search rules;
  transaction =
      let old = state g.S.Store c.args.tx.now.conn.now in
      let one = state g.S.Store c.set_last_id.new.tx.conn.now in
      let two = state g.S.Store c.add_tenths.new.tx.conn.now in
      let new = state g.S.Store c.add_to_shift.new.tx.conn.now in
      transaction_then old one new _ c.in_ok-set_last_id.ensures.merges.transaction
      (transaction_then one two new _ c.in_ok-month_tenths.ensures.merges.transaction (transaction_on c.in_ok-shift.ensures.merges.transaction));
  says = λ clean way has.
      let sale = c.args.sale.now in
      let old = state g.S.Store c.args.tx.now.conn.now in
      let one = state g.S.Store c.set_last_id.new.tx.conn.now in
      let two = state g.S.Store c.add_tenths.new.tx.conn.now in
      let new = state g.S.Store c.add_to_shift.new.tx.conn.now in
      let sum = c.in_ok-month_tenths.month_tenths in
      let shift = c.in_ok-shift.shift in
      let clean_two : HasCleanDisk two = omega (arith, c.add_to_shift.ensures.merges.transaction.survives.clean) in
      let clean_one : HasCleanDisk one = omega (arith, c.add_tenths.ensures.merges.transaction.survives.clean) in
      let first = c.in_ok-set_last_id.ensures.merges.says.made clean_one way has in
      let has_one = tables_stay (codes "last_ids" ∷ []) old one first.only has in
      let second = c.in_ok-month_tenths.ensures.merges.says.made clean_two first.only.inside.mode has_one in
      let has_two = tables_stay (codes "month_tenths" ∷ []) one two second.only has_one in
      let third = c.in_ok-shift.ensures.merges.says.made clean second.only.inside.mode has_two in
      tells_totals sale c.args.last (record { month_tenths = sum; shift = shift }) old one two new first
      (subst (λ (n : ℕ). AddsTenths (sale.meter, month_at sale.moment) n sum one two) c.tenths-tenths.ensures.value
      (subst (λ (n : ℕ). AddsTenths (sale.meter, n) c.tenths-tenths.result sum one two) c.month_of_sale-month.ensures second))
      (subst (λ (n : ℕ). AddsToShift sale.shift n sale.price shift two new) c.tenths-tenths.ensures.value third) has;
}

pub returns-in_err-set_last_id-clause-no_false_row : goal.returns-in_err-set_last_id-clause-no_false_row
returns-in_err-set_last_id-clause-no_false_row g c clean way format rows held known told_so =
    let are = known.1.1 in
    c.in_err-set_last_id.ensures.no_false_row clean way format rows held
    (known.0, ((λ k. greatest_of (map (λ (t : Sale). t.tid) (sales_under known.1.0 k))), are.last_ids))
    (handed_on c.in_err-set_last_id.field-0.0 RowOfNoOffice c.from_residual.result c.from_residual.ensures.1 told_so)

pub returns-in_err-month_tenths-clause-no_false_row : goal.returns-in_err-month_tenths-clause-no_false_row
returns-in_err-month_tenths-clause-no_false_row g c clean way format rows held known told_so =
    let sale = c.args.sale.now in
    let old = state g.S.Store c.args.tx.now.conn.now in
    let one = state g.S.Store c.set_last_id.new.tx.conn.now in
    let two = state g.S.Store c.add_tenths.new.tx.conn.now in
    let clean_one : HasCleanDisk one = omega (arith, c.add_tenths.ensures.merges.transaction.survives.clean) in
    let first = c.in_ok-set_last_id.ensures.merges.says.made clean_one way (λ runs. (held runs).has) in
    let mid = may_add_tenths sale c.args.last old one format rows (held first.only.inside.was_open) first known in
    c.in_err-month_tenths.ensures.no_false_row clean first.only.inside.mode format mid.0 (λ _. mid.1)
    (subst (λ (n : ℕ). MayAddTenths (sale.meter, n) c.tenths-tenths.result format mid.0) (sym c.month_of_sale-month.ensures)
    (subst (λ (n : ℕ). MayAddTenths (sale.meter, month_at sale.moment) n format mid.0) (sym c.tenths-tenths.ensures.value) mid.2))
    (handed_on c.in_err-month_tenths.field-0.0 RowOfNoOffice c.from_residual-in_err-month_tenths.result c.from_residual-in_err-month_tenths.ensures.1 told_so)

pub returns-in_err-shift-clause-no_false_row : goal.returns-in_err-shift-clause-no_false_row
returns-in_err-shift-clause-no_false_row g c clean way format rows held known told_so =
    let sale = c.args.sale.now in
    let old = state g.S.Store c.args.tx.now.conn.now in
    let one = state g.S.Store c.set_last_id.new.tx.conn.now in
    let two = state g.S.Store c.add_tenths.new.tx.conn.now in
    let sum = c.in_ok-month_tenths.month_tenths in
    let clean_two : HasCleanDisk two = omega (arith, c.add_to_shift.ensures.merges.transaction.survives.clean) in
    let clean_one : HasCleanDisk one = omega (arith, c.add_tenths.ensures.merges.transaction.survives.clean) in
    let first = c.in_ok-set_last_id.ensures.merges.says.made clean_one way (λ runs. (held runs).has) in
    let mid = may_add_tenths sale c.args.last old one format rows (held first.only.inside.was_open) first known in
    let second = c.in_ok-month_tenths.ensures.merges.says.made clean_two first.only.inside.mode (λ _. mid.1.has) in
    let adds = subst (λ (n : ℕ). AddsTenths (sale.meter, month_at sale.moment) n sum one two) c.tenths-tenths.ensures.value
    (subst (λ (n : ℕ). AddsTenths (sale.meter, n) c.tenths-tenths.result sum one two) c.month_of_sale-month.ensures second) in
    let then = may_add_to_shift sale c.args.last one two format mid.0 mid.1 sum adds mid.2 mid.3 in
    c.in_err-shift.ensures.no_false_row clean adds.only.inside.mode format
    then.0 (λ _. then.1) (subst (λ (n : ℕ). MayAddToShift sale.shift n sale.price format then.0) (sym c.tenths-tenths.ensures.value) then.2)
    (handed_on c.in_err-shift.field-0.0 RowOfNoOffice c.from_residual-in_err-shift.result c.from_residual-in_err-shift.ensures.1 told_so)

abbrev IsSumTold : Values → Type 0
IsSumTold row = (sum : ℕ) × ShowsSum sum row

abbrev AreTotalsTold : Values → Type 0
AreTotalsTold row = (totals : Totals) × ShowsTotals totals row

pub returns-in_err-set_last_id-clause-ends : goal.returns-in_err-set_last_id-clause-ends
returns-in_err-set_last_id-clause-ends g c clean way has =
    let sale = c.args.sale.now in
    let old = state g.S.Store c.args.tx.now.conn.now in
    let new = state g.S.Store c.set_last_id.new.tx.conn.now in
    let e = c.in_err-set_last_id.field-0.0 in
    ends_off (FailsToTotal [] sale c.args.last) (totals_writes sale c.args.last) old new e c.from_residual.result c.from_residual.ensures.1
    (false_as (λ it. inl (tells_as (λ rows none begins. none (begins_as (λ row is. (tt, is)) rows begins)) it)) (of_merge [] old old new (came_here old way) (last_id_set (sale.meter, sale.base) c.args.last)
    (tenths_added (sale.meter, month_at sale.moment) sale.tenths ∷ sale_counted sale.shift sale.tenths sale.price ∷ [])
    (λ row. (x : Unit {0}) × ShowsTid c.args.last row) e (c.in_err-set_last_id.ensures.merges.says.ends clean way has).1))

pub returns-in_err-month_tenths-clause-ends : goal.returns-in_err-month_tenths-clause-ends
returns-in_err-month_tenths-clause-ends g c clean way has =
    let sale = c.args.sale.now in
    let old = state g.S.Store c.args.tx.now.conn.now in
    let one = state g.S.Store c.set_last_id.new.tx.conn.now in
    let new = state g.S.Store c.add_tenths.new.tx.conn.now in
    let clean_one : HasCleanDisk one = omega (arith, c.add_tenths.ensures.merges.transaction.survives.clean) in
    let done = c.in_ok-set_last_id.ensures.merges in
    let first = done.says.made clean_one way has in
    let id = last_id_set (sale.meter, sale.base) c.args.last in
    let came = came_by (id ∷ []) old one (done.says.ends clean_one way has).0 first.only.inside done.transaction.survives in
    let e = c.in_err-month_tenths.field-0.0 in
    let fails = (c.in_err-month_tenths.ensures.merges.says.ends clean first.only.inside.mode (tables_stay (codes "last_ids" ∷ []) old one first.only has)).1 in
    let tenths = tenths_added (sale.meter, month_at sale.moment) sale.tenths in
    let here = subst (λ (n : ℕ). FailsToMerge IsSumTold (tenths_added (sale.meter, month_at sale.moment) n) one new e) c.tenths-tenths.ensures.value
    (subst (λ (n : ℕ). FailsToMerge IsSumTold (tenths_added (sale.meter, n) c.tenths-tenths.result) one new e) c.month_of_sale-month.ensures fails) in
    ends_off (FailsToTotal [] sale c.args.last) (totals_writes sale c.args.last) old new e c.from_residual-in_err-month_tenths.result c.from_residual-in_err-month_tenths.ensures.1
    (false_as (λ it. inr (inl it))
    (of_merge (id ∷ []) old one new came tenths (sale_counted sale.shift sale.tenths sale.price ∷ []) IsSumTold e here))

-- the first two of them were written
two_written : (sale : Sale) (last month tenths : ℕ) (old one two : State) → month ≡ month_at sale.moment → tenths ≡ sale.tenths
    → (came : Came (last_id_set (sale.meter, sale.base) last ∷ []) old one)
    → AreCarriedOut (tenths_added (sale.meter, month) tenths ∷ []) one two
    → AreCarriedOut (last_id_set (sale.meter, sale.base) last ∷ tenths_added (sale.meter, month_at sale.moment) sale.tenths ∷ []) old two
two_written sale last month tenths old one two months sums came then =
    let here = subst (λ (n : ℕ). AreCarriedOut (tenths_added (sale.meter, month_at sale.moment) n ∷ []) one two) sums
    (subst (λ (n : ℕ). AreCarriedOut (tenths_added (sale.meter, n) tenths ∷ []) one two) months then) in
    written_then (last_id_set (sale.meter, sale.base) last ∷ []) (tenths_added (sale.meter, month_at sale.moment) sale.tenths ∷ []) old one two came here

pub returns-in_err-shift-clause-ends : goal.returns-in_err-shift-clause-ends
returns-in_err-shift-clause-ends g c clean way has =
    let sale = c.args.sale.now in
    let old = state g.S.Store c.args.tx.now.conn.now in
    let one = state g.S.Store c.set_last_id.new.tx.conn.now in
    let two = state g.S.Store c.add_tenths.new.tx.conn.now in
    let new = state g.S.Store c.add_to_shift.new.tx.conn.now in
    let clean_two : HasCleanDisk two = omega (arith, c.add_to_shift.ensures.merges.transaction.survives.clean) in
    let clean_one : HasCleanDisk one = omega (arith, c.add_tenths.ensures.merges.transaction.survives.clean) in
    let id = last_id_set (sale.meter, sale.base) c.args.last in
    let tenths = tenths_added (sale.meter, month_at sale.moment) sale.tenths in
    let done = c.in_ok-set_last_id.ensures.merges in
    let first = done.says.made clean_one way has in
    let has_one = tables_stay (codes "last_ids" ∷ []) old one first.only has in
    let then = c.in_ok-month_tenths.ensures.merges in
    let second = then.says.made clean_two first.only.inside.mode has_one in
    let has_two = tables_stay (codes "month_tenths" ∷ []) one two second.only has_one in
    let came_one = came_by (id ∷ []) old one (done.says.ends clean_one way has).0 first.only.inside done.transaction.survives in
    let both = two_written sale c.args.last c.month_of_sale-month.result c.tenths-tenths.result old one two c.month_of_sale-month.ensures
    c.tenths-tenths.ensures.value came_one (then.says.ends clean_two first.only.inside.mode has_one).0 in
    let came = came_later (id ∷ tenths ∷ []) old one two came_one both second.only.inside then.transaction.survives in
    let e = c.in_err-shift.field-0.0 in
    let fails = (c.in_err-shift.ensures.merges.says.ends clean second.only.inside.mode has_two).1 in
    let here = subst (λ (n : ℕ). FailsToMerge AreTotalsTold (sale_counted sale.shift n sale.price) two new e) c.tenths-tenths.ensures.value fails in
    ends_off (FailsToTotal [] sale c.args.last) (totals_writes sale c.args.last) old new e c.from_residual-in_err-shift.result
    c.from_residual-in_err-shift.ensures.1
    (false_as (λ it. inr (inr it)) (of_merge (id ∷ tenths ∷ []) old two new came (sale_counted sale.shift sale.tenths sale.price) [] AreTotalsTold e here))

pub returns-clause-ends : goal.returns-clause-ends
returns-clause-ends g c clean way has =
    let sale = c.args.sale.now in
    let old = state g.S.Store c.args.tx.now.conn.now in
    let one = state g.S.Store c.set_last_id.new.tx.conn.now in
    let two = state g.S.Store c.add_tenths.new.tx.conn.now in
    let new = state g.S.Store c.add_to_shift.new.tx.conn.now in
    let clean_two : HasCleanDisk two = omega (arith, c.add_to_shift.ensures.merges.transaction.survives.clean) in
    let clean_one : HasCleanDisk one = omega (arith, c.add_tenths.ensures.merges.transaction.survives.clean) in
    let id = last_id_set (sale.meter, sale.base) c.args.last in
    let tenths = tenths_added (sale.meter, month_at sale.moment) sale.tenths in
    let done = c.in_ok-set_last_id.ensures.merges in
    let first = done.says.made clean_one way has in
    let has_one = tables_stay (codes "last_ids" ∷ []) old one first.only has in
    let then = c.in_ok-month_tenths.ensures.merges in
    let second = then.says.made clean_two first.only.inside.mode has_one in
    let has_two = tables_stay (codes "month_tenths" ∷ []) one two second.only has_one in
    let came_one = came_by (id ∷ []) old one (done.says.ends clean_one way has).0 first.only.inside done.transaction.survives in
    let both = two_written sale c.args.last c.month_of_sale-month.result c.tenths-tenths.result old one two c.month_of_sale-month.ensures
    c.tenths-tenths.ensures.value came_one (then.says.ends clean_two first.only.inside.mode has_one).0 in
    let came = came_later (id ∷ tenths ∷ []) old one two came_one both second.only.inside then.transaction.survives in
    let last = (c.in_ok-shift.ensures.merges.says.ends clean second.only.inside.mode has_two).0 in
    let here = subst (λ (n : ℕ). AreCarriedOut (sale_counted sale.shift n sale.price ∷ []) two new) c.tenths-tenths.ensures.value last in
    (written_then (id ∷ tenths ∷ []) (sale_counted sale.shift sale.tenths sale.price ∷ []) old two new came here, tt)

pub returns-in_err-set_last_id-clause-told : goal.returns-in_err-set_last_id-clause-told
returns-in_err-set_last_id-clause-told g c clean way has = none_of _ _ c.from_residual.result c.from_residual.ensures.1

pub returns-in_err-month_tenths-clause-told : goal.returns-in_err-month_tenths-clause-told
returns-in_err-month_tenths-clause-told g c clean way has = none_of _ _ c.from_residual-in_err-month_tenths.result c.from_residual-in_err-month_tenths.ensures.1

pub returns-in_err-shift-clause-told : goal.returns-in_err-shift-clause-told
returns-in_err-shift-clause-told g c clean way has = none_of _ _ c.from_residual-in_err-shift.result c.from_residual-in_err-shift.ensures.1

pub returns-clause-told : goal.returns-clause-told
returns-clause-told g c clean way has =
    let sale = c.args.sale.now in
    let old = state g.S.Store c.args.tx.now.conn.now in
    let one = state g.S.Store c.set_last_id.new.tx.conn.now in
    let two = state g.S.Store c.add_tenths.new.tx.conn.now in
    let new = state g.S.Store c.add_to_shift.new.tx.conn.now in
    let clean_two : HasCleanDisk two = omega (arith, c.add_to_shift.ensures.merges.transaction.survives.clean) in
    let clean_one : HasCleanDisk one = omega (arith, c.add_tenths.ensures.merges.transaction.survives.clean) in
    let id = last_id_set (sale.meter, sale.base) c.args.last in
    let tenths = tenths_added (sale.meter, month_at sale.moment) sale.tenths in
    let counted = sale_counted sale.shift sale.tenths sale.price in
    let done = c.in_ok-set_last_id.ensures.merges in
    let first = done.says.made clean_one way has in
    let has_one = tables_stay (codes "last_ids" ∷ []) old one first.only has in
    let then = c.in_ok-month_tenths.ensures.merges in
    let second = then.says.made clean_two first.only.inside.mode has_one in
    let has_two = tables_stay (codes "month_tenths" ∷ []) one two second.only has_one in
    let came_one = came_by (id ∷ []) old one (done.says.ends clean_one way has).0 first.only.inside done.transaction.survives in
    let both = two_written sale c.args.last c.month_of_sale-month.result c.tenths-tenths.result old one two c.month_of_sale-month.ensures
    c.tenths-tenths.ensures.value came_one (then.says.ends clean_two first.only.inside.mode has_one).0 in
    let came = came_later (id ∷ tenths ∷ []) old one two came_one both second.only.inside then.transaction.survives in
    let sum = c.in_ok-month_tenths.month_tenths in
    let month = subst (λ (n : ℕ). ShowsInside (BeginsWith (ShowsSum sum)) (tenths_added (sale.meter, month_at sale.moment) n).sql
    (tenths_added (sale.meter, month_at sale.moment) n).params one two) c.tenths-tenths.ensures.value
    (subst (λ (n : ℕ). ShowsInside (BeginsWith (ShowsSum sum)) (tenths_added (sale.meter, n) c.tenths-tenths.result).sql
    (tenths_added (sale.meter, n) c.tenths-tenths.result).params one two) c.month_of_sale-month.ensures
    (then.says.told clean_two first.only.inside.mode has_one)) in
    let shift = subst (λ (n : ℕ). ShowsInside (BeginsWith (ShowsTotals c.in_ok-shift.shift)) (sale_counted sale.shift n sale.price).sql
    (sale_counted sale.shift n sale.price).params two new) c.tenths-tenths.ensures.value
    (c.in_ok-shift.ensures.merges.says.told clean second.only.inside.mode has_two) in
    record {
      identifier = tells_after [] old old one (came_here old way) id (tenths ∷ counted ∷ []) (BeginsWith (ShowsTid c.args.last))
          (done.says.told clean_one way has);
      month = tells_after (id ∷ []) old one two came_one tenths (counted ∷ []) (BeginsWith (ShowsSum sum)) month;
      shift = tells_after (id ∷ tenths ∷ []) old two new came counted [] (BeginsWith (ShowsTotals c.in_ok-shift.shift)) shift;
    }
