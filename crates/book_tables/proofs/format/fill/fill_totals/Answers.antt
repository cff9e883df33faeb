use Rattle.std.proofs.Common.{[], ◌≤◌, ◌^◌, length, Ok, Err, arith}
use Rattle.std.specs.BTreeMap.{values}
use Rattle.sqlite.specs.Held.{state}
use Rattle.book_tables.specs.writing.Writing.{totals_names}
use Rattle.book_tables.proofs.FormatLemmas.FillingLemmas.{fills_before, fills_then}
use Rattle.book_tables.proofs.FormatLemmas.GatheringLemmas.{PutsTwo, fills_gathered, months_follow, puts_two, shifts_follow, three_written, two_written}
use Rattle.book_tables.proofs.format.fill.fill_totals.Goals as goal

pub returns-in_err-put_all-clause-fills : goal.returns-in_err-put_all-clause-fills
returns-in_err-put_all-clause-fills g c =
    let old = state g.S.Store c.args.tx.now.conn.now in
    let one = state g.S.Store c.put_all.new.tx.conn.now in
    let gathered = c.add_all.new.self in
    fills_before old one c.in_err-put_all.field-0.0 c.from_residual-in_err-put_all.result c.from_residual-in_err-put_all.ensures.1
    (months_follow c.amount_law.ensures.greatest c.args.sales.now gathered
    (λ few. c.in_ok-add_all.ensures [] (omega (arith, few)) c.new-gathered.ensures)) c.in_err-put_all.ensures.fills

pub returns-in_err-put_all-2-clause-fills : goal.returns-in_err-put_all-2-clause-fills
returns-in_err-put_all-2-clause-fills g c =
    let old = state g.S.Store c.args.tx.now.conn.now in
    let one = state g.S.Store c.put_all.new.tx.conn.now in
    let two = state g.S.Store c.put_all-2.new.tx.conn.now in
    let e = c.in_err-put_all-2.field-0.0 in
    let gathered = c.add_all.new.self in
    let of_all = λ (few : length c.args.sales.now ≤ 2 ^ 32). c.in_ok-add_all.ensures [] (omega (arith, few)) c.new-gathered.ensures in
    let greatest = c.amount_law.ensures.greatest in
    let sales = c.args.sales.now in
    fills_before old two e c.from_residual-in_err-put_all-2.result c.from_residual-in_err-put_all-2.ensures.1
    (shifts_follow greatest sales gathered of_all)
    (fills_then {C = λ _ _. Unit {0}} old one two totals_names (Err e) (λ ids. ids.only) (λ _ _ _ _. tt)
    (two_written greatest sales gathered of_all) c.in_ok-put_all.ensures.fills c.in_err-put_all-2.ensures.fills)

pub returns-clause-fills : goal.returns-clause-fills
returns-clause-fills g c =
    let old = state g.S.Store c.args.tx.now.conn.now in
    let one = state g.S.Store c.put_all.new.tx.conn.now in
    let two = state g.S.Store c.put_all-2.new.tx.conn.now in
    let new = state g.S.Store c.put_all-3.new.tx.conn.now in
    let gathered = c.add_all.new.self in
    let of_all = λ (few : length c.args.sales.now ≤ 2 ^ 32). c.in_ok-add_all.ensures [] (omega (arith, few)) c.new-gathered.ensures in
    let greatest = c.amount_law.ensures.greatest in
    let sales = c.args.sales.now in
    fills_then {A = PutsTwo (values gathered.last_ids) (values gathered.month_tenths)} old two new totals_names c.put_all-3.result (λ both. both.only)
    (λ _ _ both shifts. fills_gathered greatest sales gathered of_all old two new both shifts) (three_written greatest sales gathered of_all)
    (fills_then old one two totals_names (Ok tt) (λ ids. ids.only)
    (λ _ _ ids months. puts_two (values gathered.last_ids) (values gathered.month_tenths) old one two ids months)
    (two_written greatest sales gathered of_all) c.in_ok-put_all.ensures.fills c.in_ok-put_all-2.ensures.fills)
    c.put_all-3.ensures.fills
