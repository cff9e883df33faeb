use Rattle.std.proofs.Common.{rules, ◌≡◌, ◌++◌, [], ◌∷◌, List, append-nil, inl, inr, refl, subst, sym}
use Rattle.std.specs.Prelude.{⊤}
use Rattle.std.proofs.lemmas.List.{drop_all}
use Rattle.sqlite.specs.Held.{state}
use Rattle.sqlite.specs.declared.error.Error.TheVariants.{SqliteFailure}
use Rattle.sqlite.specs.declared.error.ErrorCode.TheVariants.{OutOfMemory}
use Rattle.office_rules.specs.Decision.Facts.{AreRowsFacts}
use Rattle.office_rules.specs.declared.office.row.Row.{Row}
use Rattle.office_rules.specs.declared.decision.row_facts.RowFacts.{RowFacts}
use Rattle.book_tables.specs.declared.error.TableError.TheVariants.{Database}
use Rattle.book_states.specs.FactsSeen.{AreRowsSeen, IsPassedBy, IsRefusedFor}
use Rattle.book_facts.proofs.FactsLemmas.{members_after, rows_more, was_clean}
use Rattle.book_facts.proofs.LooksLemmas.{later_spoilt, looks_on, looks_shown, looks_spoilt, row_spoilt, rows_seen_more}
use Rattle.book_facts.proofs.PassedLemmas.{clean_before, passed_after, passed_none, passed_reads, read_after, same_on, stops_on}
use Rattle.book_facts.proofs.facts.imports.found_of.Goals as goal

pub loop-row-init : goal.loop-row-init
loop-row-init g c =
    record {
      passed = passed_none (state g.S.Store c.args.conn.now) (g.met.S.Store.shut_if_dirty c.args.conn.now.store);
      found = λ clean o office members today more facts. rw c.new-found.ensures.items facts;
      seen = λ clean has more seen. rw c.new-found.ensures.items seen;
      spoilt = λ clean has spoilt. spoilt;
    }

pub returns-in_err-facts : goal.returns-in_err-facts
returns-in_err-facts g c =
    let old = state g.S.Store c.args.conn.now in
    let before = c.loop-row.invariant.passed in
    let read = c.in_err-facts.ensures.reads in
    looks_on c.from_residual.result c.from_residual.ensures.1 (same_on (read_after before read)) (λ clean has told.
    let was = clean_before before read.survives has clean in
    c.loop-row.invariant.spoilt was has (row_spoilt old.now c.args.rows.now c.loop-row.row-index c.row-item.result c.loop-row-test.true
    c.row-item.is (looks_spoilt before c.in_err-facts.ensures clean has told)))

pub returns-in_err-map_err : goal.returns-in_err-map_err
returns-in_err-map_err g c =
    let read = read_after c.loop-row.invariant.passed c.in_ok-facts.ensures.reads in
    looks_on {U = ⊤} c.from_residual-in_err-map_err.result c.from_residual-in_err-map_err.ensures.1
    (same_on (stops_on (Database (SqliteFailure OutOfMemory)) read (λ clean has. inr (refl, read.same clean has))))
    (λ clean has row. absurd (let e = row in cc))

pub returns-then-differs : goal.returns-then-differs
returns-then-differs g c =
    let old = state g.S.Store c.args.conn.now in
    let rows = c.args.rows.now in
    let before = c.loop-row.invariant.passed in
    let read = c.in_ok-facts.ensures.reads in
    let i = c.loop-row.row-index in
    let row = c.row-item.result in
    let found = c.loop-row.found.items in
    let f = c.in_ok-facts.facts in
    let pushed : c.push.new.self.items ≡ found ++ f ∷ [] = search rules in
    record {
      facts = λ clean o office members today.
          let is = c.in_ok-facts.ensures.facts clean o office (members_after o members before read.survives clean) in
          let was = was_clean office members before read clean in
          let differs = (c.differs-differs.ensures o today is).0 c.if-differs.true in
          rw pushed (subst (λ (found : List RowFacts). AreRowsFacts o today rows found) (append-nil (found ++ f ∷ []))
          (rows_more o today rows i row found [] f c.loop-row-test.true c.row-item.is is (inl differs)
          (c.loop-row.invariant.found was o office members today)));
      shown = λ clean has.
          let was = clean_before before read.survives has clean in
          let is = looks_shown before c.in_ok-facts.ensures clean has in
          let differs : IsRefusedFor row f = λ o today same. (c.differs-differs.ensures o today same).0 c.if-differs.true in
          rw pushed (subst (λ (found : List RowFacts). AreRowsSeen rows old.now found) (append-nil (found ++ f ∷ []))
          (rows_seen_more old.now rows i row found [] f c.loop-row-test.true c.row-item.is is (inl (differs, refl)) (c.loop-row.invariant.seen was has)));
      spoilt = λ _ _. tt;
      reads = passed_reads (passed_after before read (g.met.S.Store.shut_if_dirty c.row_facts.new.conn.store));
    }

pub loop-row-preserved : goal.loop-row-preserved
loop-row-preserved g c =
    let old = state g.S.Store c.args.conn.now in
    let rows = c.args.rows.now in
    let before = c.loop-row.invariant.passed in
    let read = c.in_ok-facts.ensures.reads in
    let i = c.loop-row.row-index in
    let row = c.row-item.result in
    let found = c.loop-row.found.items in
    let f = c.in_ok-facts.facts in
    let pushed : c.push.new.self.items ≡ found ++ f ∷ [] = search rules in
    record {
      passed = passed_after before read (g.met.S.Store.shut_if_dirty c.row_facts.new.conn.store);
      found = λ clean o office members today more rest.
          let is = c.in_ok-facts.ensures.facts clean o office (members_after o members before read.survives clean) in
          let was = was_clean office members before read clean in
          rw pushed (rows_more o today rows i row found more f c.loop-row-test.true c.row-item.is is (inr rest)
          (c.loop-row.invariant.found was o office members today));
      seen = λ clean has more rest.
          let was = clean_before before read.survives has clean in
          let is = looks_shown before c.in_ok-facts.ensures clean has in
          let passed : IsPassedBy row f = λ o today same refused. absurd
          (let differs = (c.differs-differs.ensures o today same).1 refused in let not = c.if-differs.false in cc) in
          rw pushed (rows_seen_more old.now rows i row found more f c.loop-row-test.true c.row-item.is is (inr (passed, rest))
          (c.loop-row.invariant.seen was has));
      spoilt = λ clean has rest.
          let was = clean_before before read.survives has clean in
          let is = looks_shown before c.in_ok-facts.ensures clean has in
          let passed : IsPassedBy row f = λ o today same refused. absurd
          (let differs = (c.differs-differs.ensures o today same).1 refused in let not = c.if-differs.false in cc) in
          c.loop-row.invariant.spoilt was has (later_spoilt old.now rows i row c.loop-row-test.true c.row-item.is f is passed rest);
    }

pub returns : goal.returns
returns g c =
    let old = state g.S.Store c.args.conn.now in
    let rows = c.args.rows.now in
    let found = c.loop-row.found.items in
    record {
      facts = λ clean o office members today.
          subst (λ (found : List RowFacts). AreRowsFacts o today rows found) (append-nil found)
          (c.loop-row.invariant.found clean o office members today []
          (subst (λ (rest : List Row). AreRowsFacts o today rest []) (sym (drop_all c.loop-row.row-index rows c.loop-row-test.false)) tt));
      shown = λ clean has.
          subst (λ (found : List RowFacts). AreRowsSeen rows old.now found) (append-nil found)
          (c.loop-row.invariant.seen clean has [] (subst (λ (rest : List Row). AreRowsSeen rest old.now [])
          (sym (drop_all c.loop-row.row-index rows c.loop-row-test.false)) refl));
      spoilt = λ _ _. tt;
      reads = passed_reads c.loop-row.invariant.passed;
    }
