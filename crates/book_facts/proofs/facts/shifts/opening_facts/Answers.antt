use Rattle.std.proofs.Common.{◌≡◌, false, inl, inr, is_some, length, rules, unwrap_or, ◌∙◌}
use Rattle.sqlite.specs.Held.{state}
use Rattle.one_table.proofs.ReadsOnlyLemmas.{read_on}
use Rattle.book_tables.proofs.OfficeTableLemmas.{shifts_in, read_in_office}
use Rattle.book_tables.specs.reading.Questions.{the_open_shift}
use Rattle.book_tables.specs.reading.Seen.{ShowsFirst}
use Rattle.book_facts.proofs.FactsLemmas.{open_shift_told, shifts_told, was_clean}
use Rattle.book_facts.proofs.PassedLemmas.{passed, passed_none, read_after, clean_before}
use Rattle.book_facts.proofs.LooksLemmas.{looks_on, table_shown, table_spoilt, there_is_none, first_shown, first_spoilt}
use Rattle.book_facts.proofs.facts.shifts.opening_facts.Goals as goal

pub returns-in_err-open_shift : goal.returns-in_err-open_shift
returns-in_err-open_shift g c = looks_on c.from_residual.result c.from_residual.ensures.1 (read_in_office shifts_in c.in_err-open_shift.ensures.reads)
    (λ clean has row. inl (first_spoilt shifts_in c.in_err-open_shift.ensures.sees clean has row))

pub returns-then-is_some : goal.returns-then-is_some
returns-then-is_some g c =
    let old = state g.S.Store c.args.conn.now in
    let none = passed_none old (g.met.S.Store.shut_if_dirty c.args.conn.now.store) in
    let read_1 = (read_in_office shifts_in c.in_ok-open_shift.ensures.reads) in
    record {
      facts = λ clean o office members.
          record {
            open_shift = open_shift_told office members none read_1 clean c.args.operator.now c.in_ok-open_shift.open_shift
                (c.in_ok-open_shift.ensures.given clean);
            shift_count = search rules;
          };
      shown = λ clean has. record { open_shift = first_shown shifts_in c.in_ok-open_shift.ensures.sees clean has; shift_count = search rules };
      spoilt = λ _ _. tt;
      reads = read_on (read_in_office shifts_in c.in_ok-open_shift.ensures.reads);
    }

pub returns-in_err-last : goal.returns-in_err-last
returns-in_err-last g c =
    let old = state g.S.Store c.args.conn.now in
    let first = passed (read_in_office shifts_in c.in_ok-open_shift.ensures.reads) (g.met.S.Store.shut_if_dirty c.open_shift.new.conn.store) in
    let read_2 = read_in_office shifts_in c.in_err-last.ensures.reads in
    let none : is_some c.in_ok-open_shift.open_shift ≡ false = search rules in
    looks_on c.from_residual-in_err-last.result c.from_residual-in_err-last.ensures.1 (read_after first read_2)
    (λ clean has row.
    let was = clean_before first read_2.survives has clean in
    let gone = there_is_none c.in_ok-open_shift.open_shift none (ShowsFirst (the_open_shift c.args.operator.now) old.now)
    (first_shown shifts_in c.in_ok-open_shift.ensures.sees was has) in
    inr (gone, table_spoilt first shifts_in c.in_err-last.ensures.reads c.in_err-last.ensures.sees clean has row))

pub returns : goal.returns
returns g c =
    let old = state g.S.Store c.args.conn.now in
    let none = passed_none old (g.met.S.Store.shut_if_dirty c.args.conn.now.store) in
    let read_1 = (read_in_office shifts_in c.in_ok-open_shift.ensures.reads) in
    let first = passed read_1 (g.met.S.Store.shut_if_dirty c.open_shift.new.conn.store) in
    let read_2 = (read_in_office shifts_in c.in_ok-last.ensures.reads) in
    record {
      facts = λ clean o office members.
          let was = was_clean office members first read_2 clean in
          record {
            open_shift = open_shift_told office members none read_1 was c.args.operator.now c.in_ok-open_shift.open_shift
                (c.in_ok-open_shift.ensures.given was);
            shift_count = λ _. c.from.ensures ∙ c.unwrap_or.ensures
                ∙ shifts_told office members first read_2 clean length (unwrap_or c.in_ok-last.last 0) (c.in_ok-last.ensures.counted clean);
          };
      shown = λ clean has.
          let was = clean_before first read_2.survives has clean in
          record {
            open_shift = first_shown shifts_in c.in_ok-open_shift.ensures.sees was has;
            shift_count = λ _. (
              c.in_ok-last.last,
              table_shown first shifts_in c.in_ok-last.ensures.reads c.in_ok-last.ensures.sees clean
                  has,
              c.from.ensures ∙ c.unwrap_or.ensures,
            );
          };
      spoilt = λ _ _. tt;
      reads = read_on (read_after first (read_in_office shifts_in c.in_ok-last.ensures.reads));
    }
