use Rattle.std.proofs.Common.{ℕ, subst}
use Rattle.std.specs.Prelude.{All}
use Rattle.std.proofs.lemmas.List.Elements.{All-append}
use Rattle.sqlite.specs.Effect.{Database}
use Rattle.sqlite.specs.Held.{state}
use Rattle.one_table.proofs.ReadsOnlyLemmas.{fail_on, read_on}
use Rattle.audit_rows.specs.Breaks.{HasTrueRows}
use Rattle.audit_rows.proofs.PassedLemmas.{clean_between, known_between, known_first, read_after, read_first, same_between}
use Rattle.audit_rows.proofs.source.Tuple2Source.read.Goals as goal

pub returns-in_err-first-clause-reads : goal.returns-in_err-first-clause-reads
returns-in_err-first-clause-reads g c =
    fail_on {T = ℕ} c.from_residual.result c.from_residual.ensures.1
    (read_first g.A.Source.tables g.B.Source.tables c.in_err-first.field-0.0 c.in_err-first.ensures.reads)

pub returns-in_err-second-clause-reads : goal.returns-in_err-second-clause-reads
returns-in_err-second-clause-reads g c =
    fail_on c.from_residual-in_err-second.result c.from_residual-in_err-second.ensures.1
    (read_after g.A.Source.tables g.B.Source.tables c.in_ok-first.ensures.reads (g.met.S.Store.shut_if_dirty c.read.new.conn.store)
    c.in_err-second.ensures.reads c.in_ok-first.ensures.whole)

pub returns-clause-given : goal.returns-clause-given
returns-clause-given g c clean known =
    let xs = g.A.Source.tables in
    let ys = g.B.Source.tables in
    let first = c.in_ok-first.ensures.reads in
    let second = c.in_ok-second.ensures.reads in
    let shut = g.met.S.Store.shut_if_dirty c.read.new.conn.store in (
      c.in_ok-first.ensures.given (clean_between xs ys first shut second known clean) (known_first xs ys first shut second known),
      subst (λ (db : Database). g.B.Source.says db c.in_ok-second.second) (same_between xs ys first shut second known clean).0.now_is
          (c.in_ok-second.ensures.given clean (known_between xs ys first shut second known)),
    )

pub returns-clause-whole : goal.returns-clause-whole
returns-clause-whole g c clean known =
    let xs = g.A.Source.tables in
    let ys = g.B.Source.tables in
    let first = c.in_ok-first.ensures.reads in
    let second = c.in_ok-second.ensures.reads in
    let shut = g.met.S.Store.shut_if_dirty c.read.new.conn.store in
    let same = (same_between xs ys first shut second known clean).0.now_is in
    All-append (HasTrueRows (state g.S.Store c.args.conn.now).now) xs ys
    (c.in_ok-first.ensures.whole (clean_between xs ys first shut second known clean) (known_first xs ys first shut second known))
    (subst (λ (db : Database). All (HasTrueRows db) ys) same (c.in_ok-second.ensures.whole clean (known_between xs ys first shut second known)))

pub returns-clause-reads : goal.returns-clause-reads
returns-clause-reads g c =
    read_on (read_after g.A.Source.tables g.B.Source.tables c.in_ok-first.ensures.reads (g.met.S.Store.shut_if_dirty c.read.new.conn.store)
    c.in_ok-second.ensures.reads c.in_ok-first.ensures.whole)
