use Rattle.std.proofs.Common.{rules}
use Rattle.sqlite.specs.Held.{state}
use Rattle.book_tables.proofs.FormatLemmas.BringingLemmas.{brings_office, brings_tables, fails_bringing, filled_off, filled_on, keeps_bringing}
use Rattle.book_tables.proofs.ReadingLemmas.SeenLemmas.{none_of}
use Rattle.book_tables.proofs.format.upgrade.bring.Goals as goal

pub returns-in_err-fill_missing-clause-refused : goal.returns-in_err-fill_missing-clause-refused
returns-in_err-fill_missing-clause-refused g c clean way =
    let mid = state g.S.Store c.make_missing.new.tx.conn.now in
    let new = state g.S.Store c.fill_missing.new.tx.conn.now in
    let e = c.in_err-fill_missing.field-0.0 in
    let r = c.from_residual-in_err-fill_missing.result in
    let made = c.in_ok-make_missing.ensures in
    fails_bringing c.args.from c.args.meters.now c.args.sales.now (state g.S.Store c.args.tx.now.conn.now) mid new r made.made.says made.inside
    made.made.transaction
    (filled_off c.args.from c.args.meters.now c.args.sales.now mid new e r c.from_residual-in_err-fill_missing.ensures.1
    c.in_err-fill_missing.ensures.fills) g.S.Store clean

pub returns-in_err-fill_missing-clause-brings : goal.returns-in_err-fill_missing-clause-brings
returns-in_err-fill_missing-clause-brings g c =
    let mid = state g.S.Store c.make_missing.new.tx.conn.now in
    let new = state g.S.Store c.fill_missing.new.tx.conn.now in
    let e = c.in_err-fill_missing.field-0.0 in
    let r = c.from_residual-in_err-fill_missing.result in
    let made = c.in_ok-make_missing.ensures in
    record {
      same_reference = search rules;
      transaction = keeps_bringing c.args.from c.args.meters.now c.args.sales.now (state g.S.Store c.args.tx.now.conn.now) mid new r
          made.made.says made.inside made.made.transaction
          (filled_off c.args.from c.args.meters.now c.args.sales.now mid new e r c.from_residual-in_err-fill_missing.ensures.1
          c.in_err-fill_missing.ensures.fills);
      says = λ clean sound handed. none_of _ _ c.from_residual-in_err-fill_missing.result c.from_residual-in_err-fill_missing.ensures.1;
    }

pub returns-clause-brings : goal.returns-clause-brings
returns-clause-brings g c =
    let old = state g.S.Store c.args.tx.now.conn.now in
    let mid = state g.S.Store c.make_missing.new.tx.conn.now in
    let filled = state g.S.Store c.fill_missing.new.tx.conn.now in
    let new = state g.S.Store c.tell_present.new.tx.conn.now in
    let r = c.tell_present.result in
    let made = c.in_ok-make_missing.ensures in
    let told = c.tell_present.ensures.writes in
    let rest = filled_on c.args.from c.args.meters.now c.args.sales.now mid filled new r c.in_ok-fill_missing.ensures.fills told.transaction told.says in
    record {
      same_reference = search rules;
      transaction = keeps_bringing c.args.from c.args.meters.now c.args.sales.now old mid new r made.made.says made.inside made.made.transaction rest;
      says = λ clean. brings_office c.args.from c.args.meters.now c.args.sales.now old mid new r made.made.says made.inside
          made.made.transaction rest c.requires clean;
    }

pub returns-clause-leaves : goal.returns-clause-leaves
returns-clause-leaves g c clean =
    let mid = state g.S.Store c.make_missing.new.tx.conn.now in
    let filled = state g.S.Store c.fill_missing.new.tx.conn.now in
    let new = state g.S.Store c.tell_present.new.tx.conn.now in
    let r = c.tell_present.result in
    let made = c.in_ok-make_missing.ensures in
    let told = c.tell_present.ensures.writes in
    brings_tables c.args.from c.args.meters.now c.args.sales.now (state g.S.Store c.args.tx.now.conn.now) mid new r made.made.says made.inside
    made.made.transaction (filled_on c.args.from c.args.meters.now c.args.sales.now mid filled new r c.in_ok-fill_missing.ensures.fills
    told.transaction told.says) clean

pub returns-clause-refused : goal.returns-clause-refused
returns-clause-refused g c clean way =
    let mid = state g.S.Store c.make_missing.new.tx.conn.now in
    let filled = state g.S.Store c.fill_missing.new.tx.conn.now in
    let new = state g.S.Store c.tell_present.new.tx.conn.now in
    let r = c.tell_present.result in
    let made = c.in_ok-make_missing.ensures in
    let told = c.tell_present.ensures.writes in
    fails_bringing c.args.from c.args.meters.now c.args.sales.now (state g.S.Store c.args.tx.now.conn.now) mid new r made.made.says made.inside
    made.made.transaction (filled_on c.args.from c.args.meters.now c.args.sales.now mid filled new r c.in_ok-fill_missing.ensures.fills
    told.transaction told.says) g.S.Store clean
