use Rattle.sqlite.specs.Held.{state}
use Rattle.one_table.proofs.ReadsOnlyLemmas.{read_on}
use Rattle.book_tables.proofs.OfficeTableLemmas.{shifts_in, read_in_office}
use Rattle.book_facts.proofs.FactsLemmas.{open_shift_told}
use Rattle.book_facts.proofs.PassedLemmas.{passed_none}
use Rattle.book_facts.proofs.LooksLemmas.{looks_on, first_shown, first_spoilt}
use Rattle.book_facts.proofs.facts.shifts.closing_facts.Goals as goal

pub returns-in_err-open_shift : goal.returns-in_err-open_shift
returns-in_err-open_shift g c = looks_on c.from_residual.result c.from_residual.ensures.1 (read_in_office shifts_in c.in_err-open_shift.ensures.reads)
    (λ clean has. first_spoilt shifts_in c.in_err-open_shift.ensures.sees clean has)

pub returns : goal.returns
returns g c =
    let old = state g.S.Store c.args.conn.now in
    let none = passed_none old (g.met.S.Store.shut_if_dirty c.args.conn.now.store) in
    record {
      facts = λ clean o office members. open_shift_told office members none (read_in_office shifts_in c.in_ok-open_shift.ensures.reads)
          clean c.args.operator.now c.in_ok-open_shift.open_shift (c.in_ok-open_shift.ensures.given clean);
      shown = λ clean has. first_shown shifts_in c.in_ok-open_shift.ensures.sees clean has;
      spoilt = λ _ _. tt;
      reads = read_on (read_in_office shifts_in c.in_ok-open_shift.ensures.reads);
    }
