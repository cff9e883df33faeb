use Rattle.std.proofs.Common.{◌≡◌, false, find, inl, inr, is_none, is_some, rules, ◌&&◌, refl}
use Rattle.std.specs.Prelude.{bytes_eq}
use Rattle.sqlite.specs.Held.{state}
use Rattle.one_table.proofs.ReadsOnlyLemmas.{read_on}
use Rattle.book_tables.proofs.OfficeTableLemmas.{read_in_office, sales_in, shifts_in}
use Rattle.book_tables.specs.reading.Questions.{the_open_shift, the_sale_of_ref}
use Rattle.book_tables.specs.reading.Seen.{ShowsFirst}
use Rattle.book_facts.proofs.FactsLemmas.{members_after, open_shift_told, sales_told, was_clean}
use Rattle.book_facts.proofs.PassedLemmas.{passed, passed_after, passed_none, read_after, clean_before}
use Rattle.book_facts.proofs.LooksLemmas.{looks_on, looks_shown, looks_spoilt, table_shown, table_spoilt, there_is_none, there_is_one, first_shown, first_spoilt}
use Rattle.book_facts.proofs.facts.sales.sale_facts.Goals as goal

pub returns-in_err-facts : goal.returns-in_err-facts
returns-in_err-facts g c = looks_on c.from_residual.result c.from_residual.ensures.1 (read_in_office sales_in c.in_err-facts.ensures.reads)
    (λ clean has row. inl (first_spoilt sales_in c.in_err-facts.ensures.sees clean has row))

pub returns-then-is_some : goal.returns-then-is_some
returns-then-is_some g c =
    let old = state g.S.Store c.args.conn.now in
    let none = passed_none old (g.met.S.Store.shut_if_dirty c.args.conn.now.store) in
    let read_1 = (read_in_office sales_in c.in_ok-facts.ensures.reads) in
    record {
      facts = λ clean o office members counted.
          record {
            first_sale = sales_told office members none read_1 clean sales_in
                (find (λ s. bytes_eq s.operator c.args.order.now.operator && bytes_eq s.order_ref c.args.order.now.order_ref))
                c.in_ok-facts.field-0 (c.in_ok-facts.ensures.given clean);
            new_sale = search rules;
          };
      shown = λ clean has. record {
        first_sale = first_shown sales_in c.in_ok-facts.ensures.sees clean has;
        open_shift = search rules;
        account = search rules;
        sale_count = search rules;
      };
      spoilt = λ _ _. tt;
      reads = read_on (read_in_office sales_in c.in_ok-facts.ensures.reads);
    }

pub returns-in_err-facts-2 : goal.returns-in_err-facts-2
returns-in_err-facts-2 g c =
    let old = state g.S.Store c.args.conn.now in
    let first = passed (read_in_office sales_in c.in_ok-facts.ensures.reads) (g.met.S.Store.shut_if_dirty c.sale_of_ref.new.conn.store) in
    let read_2 = read_in_office shifts_in c.in_err-facts-2.ensures.reads in
    let new : is_some c.in_ok-facts.field-0 ≡ false = search rules in
    looks_on c.from_residual-in_err-facts-2.result c.from_residual-in_err-facts-2.ensures.1 (read_after first read_2)
    (λ clean has row.
    let was = clean_before first read_2.survives has clean in
    let unsold = there_is_none c.in_ok-facts.field-0 new (ShowsFirst (the_sale_of_ref c.args.order.now.operator c.args.order.now.order_ref) old.now)
    (first_shown sales_in c.in_ok-facts.ensures.sees was has) in
    inr (unsold, inl (table_spoilt first shifts_in c.in_err-facts-2.ensures.reads c.in_err-facts-2.ensures.sees clean has row)))

pub returns-then-is_none : goal.returns-then-is_none
returns-then-is_none g c =
    let old = state g.S.Store c.args.conn.now in
    let none = passed_none old (g.met.S.Store.shut_if_dirty c.args.conn.now.store) in
    let read_1 = (read_in_office sales_in c.in_ok-facts.ensures.reads) in
    let first = passed read_1 (g.met.S.Store.shut_if_dirty c.sale_of_ref.new.conn.store) in
    let read_2 = (read_in_office shifts_in c.in_ok-facts-2.ensures.reads) in
    record {
      facts = λ clean o office members counted.
          let was = was_clean office members first read_2 clean in
          record {
            first_sale = sales_told office members none read_1 was sales_in
                (find (λ s. bytes_eq s.operator c.args.order.now.operator && bytes_eq s.order_ref c.args.order.now.order_ref))
                c.in_ok-facts.field-0 (c.in_ok-facts.ensures.given was);
            new_sale = λ _. record {
              open_shift = open_shift_told office members first read_2 clean c.args.order.now.operator c.in_ok-facts-2.field-0
                  (c.in_ok-facts-2.ensures.given clean);
              account = search rules;
              sale_count = search rules;
            };
          };
      shown = λ clean has.
          let was = clean_before first read_2.survives has clean in
          record {
            first_sale = first_shown sales_in c.in_ok-facts.ensures.sees was has;
            open_shift = λ _. table_shown first shifts_in c.in_ok-facts-2.ensures.reads c.in_ok-facts-2.ensures.sees clean has;
            account = search rules;
            sale_count = search rules;
          };
      spoilt = λ _ _. tt;
      reads = read_on (read_after first (read_in_office shifts_in c.in_ok-facts-2.ensures.reads));
    }

pub returns-in_err-facts-3 : goal.returns-in_err-facts-3
returns-in_err-facts-3 g c =
    let old = state g.S.Store c.args.conn.now in
    let first = passed (read_in_office sales_in c.in_ok-facts.ensures.reads) (g.met.S.Store.shut_if_dirty c.sale_of_ref.new.conn.store) in
    let read_2 = read_in_office shifts_in c.in_ok-facts-2.ensures.reads in
    let second = passed_after first read_2 (g.met.S.Store.shut_if_dirty c.open_shift.new.conn.store) in
    let read_3 = c.in_err-facts-3.ensures.reads in
    let new : is_some c.in_ok-facts.field-0 ≡ false = search rules in
    let open_is : is_none c.in_ok-facts-2.field-0 ≡ false = search rules in
    looks_on c.from_residual-in_err-facts-3.result c.from_residual-in_err-facts-3.ensures.1 (read_after second read_3)
    (λ clean has row.
    let later = clean_before second read_3.survives has clean in
    let was = clean_before first read_2.survives has later in
    let unsold = there_is_none c.in_ok-facts.field-0 new (ShowsFirst (the_sale_of_ref c.args.order.now.operator c.args.order.now.order_ref) old.now)
    (first_shown sales_in c.in_ok-facts.ensures.sees was has) in
    let shift = there_is_one c.in_ok-facts-2.field-0 open_is (ShowsFirst (the_open_shift c.args.order.now.operator) old.now)
    (table_shown first shifts_in c.in_ok-facts-2.ensures.reads c.in_ok-facts-2.ensures.sees later has) in
    inr (unsold, inr (shift.0, shift.1, looks_spoilt second c.in_err-facts-3.ensures clean has row)))

pub returns : goal.returns
returns g c =
    let old = state g.S.Store c.args.conn.now in
    let none = passed_none old (g.met.S.Store.shut_if_dirty c.args.conn.now.store) in
    let read_1 = (read_in_office sales_in c.in_ok-facts.ensures.reads) in
    let first = passed read_1 (g.met.S.Store.shut_if_dirty c.sale_of_ref.new.conn.store) in
    let read_2 = (read_in_office shifts_in c.in_ok-facts-2.ensures.reads) in
    let second = passed_after first read_2 (g.met.S.Store.shut_if_dirty c.open_shift.new.conn.store) in
    let read_3 = c.in_ok-facts-3.ensures.reads in
    record {
      facts = λ clean o office members counted.
          let later = was_clean office members second read_3 clean in
          let was = was_clean office members first read_2 later in
          record {
            first_sale = sales_told office members none read_1 was sales_in
                (find (λ s. bytes_eq s.operator c.args.order.now.operator && bytes_eq s.order_ref c.args.order.now.order_ref))
                c.in_ok-facts.field-0 (c.in_ok-facts.ensures.given was);
            new_sale = λ _. record {
              open_shift = open_shift_told office members first read_2 later c.args.order.now.operator c.in_ok-facts-2.field-0
                  (c.in_ok-facts-2.ensures.given later);
              account = λ _. c.in_ok-facts-3.ensures.facts clean o office (members_after o members second read_3.survives clean);
              sale_count = λ _ _. counted;
            };
          };
      shown = λ clean has.
          let later = clean_before second read_3.survives has clean in
          let was = clean_before first read_2.survives has later in
          record {
            first_sale = first_shown sales_in c.in_ok-facts.ensures.sees was has;
            open_shift = λ _. table_shown first shifts_in c.in_ok-facts-2.ensures.reads c.in_ok-facts-2.ensures.sees later has;
            account = λ _ _. looks_shown second c.in_ok-facts-3.ensures clean has;
            sale_count = λ _ _ _. refl;
          };
      spoilt = λ _ _. tt;
      reads = read_on (read_after second c.in_ok-facts-3.ensures.reads);
    }
