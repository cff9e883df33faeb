use Rattle.std.proofs.Common.{List, Option, Some, ap, subst}
use Rattle.sqlite.specs.Held.{state}
use Rattle.one_table.proofs.ReadsOnlyLemmas.{read_on}
use Rattle.office_rules.specs.Decision.Facts.{AreRowsFacts}
use Rattle.office_rules.specs.declared.decision.row_facts.RowFacts.{RowFacts}
use Rattle.office_rules.specs.declared.office.row.Row.{Row}
use Rattle.book_states.specs.FactsSeen.{AreRowsSeen}
use Rattle.book_states.specs.Spoilt.{AreRowsSpoilt}
use Rattle.book_facts.proofs.LooksLemmas.{looks_on}
use Rattle.book_facts.proofs.facts.imports.import_facts.Goals as goal

pub returns-in_err-found : goal.returns-in_err-found
returns-in_err-found g c = looks_on c.from_residual.result c.from_residual.ensures.1 c.in_err-found.ensures.reads
    (λ clean has row. subst (λ (rows : List Row). AreRowsSpoilt rows (state g.S.Store c.args.conn.now).now) c.as_slice.ensures.view
    (c.in_err-found.ensures.spoilt clean has row))

pub returns : goal.returns
returns g c =
    let old = state g.S.Store c.args.conn.now in
    let found = c.in_ok-found.found.items in
    let rows_are = ap (λ (fs : List RowFacts). let some : Option (List RowFacts) = Some fs in some) c.of.ensures in
    record {
      facts = λ clean o office members today. (
        found,
        rows_are,
        subst (λ (rows : List Row). AreRowsFacts o today rows found) c.as_slice.ensures.view (c.in_ok-found.ensures.facts clean o office members today),
      );
      shown = λ clean has. (
        found,
        rows_are,
        subst (λ (rows : List Row). AreRowsSeen rows old.now found) c.as_slice.ensures.view
            (c.in_ok-found.ensures.shown clean has),
      );
      spoilt = λ _ _. tt;
      reads = read_on c.in_ok-found.ensures.reads;
    }
